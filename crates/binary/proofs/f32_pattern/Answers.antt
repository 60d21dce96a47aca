use Rattle.binary.proofs.Nan.{float_ends}
use Rattle.binary.proofs.f32_pattern.Goals as goal

pub returns-else-x : goal.returns-else-x
returns-else-x c = search float_ends
