-- `integer::int_at` meets its contract: each arm is the one law of a signed arm, at its count.
use Rattle.integer.proofs.Arms.{arms}
use Rattle.integer.proofs.int_at.Goals as goal

pub returns-in-1 : goal.returns-in-1
returns-in-1 c = search arms

pub returns-in-2 : goal.returns-in-2
returns-in-2 c = search arms

pub returns-in-3 : goal.returns-in-3
returns-in-3 c = search arms

pub returns-in-4 : goal.returns-in-4
returns-in-4 c = search arms

pub returns-in-6 : goal.returns-in-6
returns-in-6 c = search arms

pub returns-in-8 : goal.returns-in-8
returns-in-8 c = search arms

pub wide_at-requires : goal.wide_at-requires
wide_at-requires c = search arms

pub returns-in_default : goal.returns-in_default
returns-in_default c = search arms
