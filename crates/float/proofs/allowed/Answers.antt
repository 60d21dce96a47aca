-- `float::allowed` meets its contract: one of the three counts, or none of them.
use Rattle.float.proofs.Ends.{allowed_ends}
use Rattle.float.proofs.allowed.Goals as goal

pub returns-in-2 : goal.returns-in-2
returns-in-2 c = search allowed_ends

pub returns-in_default : goal.returns-in_default
returns-in_default c = search allowed_ends
