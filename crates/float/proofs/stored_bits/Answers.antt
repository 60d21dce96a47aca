-- `float::stored_bits` meets its contract: each arm by the count that led to it, the last by those that did not.
use Rattle.float.proofs.Ends.{count_ends}
use Rattle.float.proofs.stored_bits.Goals as goal

pub le8-requires : goal.le8-requires
le8-requires c = search count_ends

pub returns-in_default : goal.returns-in_default
returns-in_default c = search count_ends
