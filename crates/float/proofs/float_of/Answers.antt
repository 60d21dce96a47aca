-- `float::float_of` meets its contract: each arm by the count that led to it.
use Rattle.float.proofs.Ends.{count_ends}
use Rattle.float.proofs.float_of.Goals as goal

pub returns-in-2 : goal.returns-in-2
returns-in-2 c = search count_ends

pub returns-in-4 : goal.returns-in-4
returns-in-4 c = search count_ends

pub returns-in_default : goal.returns-in_default
returns-in_default c = search count_ends
