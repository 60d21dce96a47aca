-- `shortest::shortest_int` meets its contract: each arm by the bounds that its count is needed for.
use Rattle.shortest.proofs.Arms.{int_ends}
use Rattle.shortest.proofs.shortest_int.Goals as goal

pub returns-in-1 : goal.returns-in-1
returns-in-1 c = search int_ends

pub returns-in-2 : goal.returns-in-2
returns-in-2 c = search int_ends

pub returns-in-3 : goal.returns-in-3
returns-in-3 c = search int_ends

pub returns-in-4 : goal.returns-in-4
returns-in-4 c = search int_ends

pub returns-in-6 : goal.returns-in-6
returns-in-6 c = search int_ends

pub returns-in-8 : goal.returns-in-8
returns-in-8 c = search int_ends

pub le8-requires-in_default : goal.le8-requires-in_default
le8-requires-in_default c = search int_ends

pub le8-requires-in_default-2 : goal.le8-requires-in_default-2
le8-requires-in_default-2 c = search int_ends

pub returns-in_default : goal.returns-in_default
returns-in_default c = search int_ends
