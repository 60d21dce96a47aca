-- `float::as_f32` meets its contract: an F32 is its own value, and an F64 is narrowed.
use Rattle.float.proofs.Ends.{value_ends}
use Rattle.float.proofs.as_f32.Goals as goal

pub returns-in-F64 : goal.returns-in-F64
returns-in-F64 c = search value_ends

pub returns-in-F32 : goal.returns-in-F32
returns-in-F32 c = search value_ends
