-- `integer::allowed` meets its contract: each arm is a count of the list, and the last none of them.
use Rattle.integer.proofs.Arms.{counts_ends}
use Rattle.integer.proofs.allowed.Goals as goal

pub returns-in-1 : goal.returns-in-1
returns-in-1 c = search counts_ends

pub returns-in-2 : goal.returns-in-2
returns-in-2 c = search counts_ends

pub returns-in-3 : goal.returns-in-3
returns-in-3 c = search counts_ends

pub returns-in-4 : goal.returns-in-4
returns-in-4 c = search counts_ends

pub returns-in-6 : goal.returns-in-6
returns-in-6 c = search counts_ends

pub returns-in-8 : goal.returns-in-8
returns-in-8 c = search counts_ends

pub returns-in-16 : goal.returns-in-16
returns-in-16 c = search counts_ends

pub returns-in_default : goal.returns-in_default
returns-in_default c = search counts_ends
