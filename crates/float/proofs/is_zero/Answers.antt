-- `float::is_zero` meets its contract: each width by its own comparison.
use Rattle.float.proofs.Ends.{value_ends}
use Rattle.float.proofs.is_zero.Goals as goal

pub returns-in-F64 : goal.returns-in-F64
returns-in-F64 c = search value_ends

pub returns-in-F32 : goal.returns-in-F32
returns-in-F32 c = search value_ends
