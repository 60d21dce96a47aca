use Rattle.little.proofs.Signs.{sign_ends}
use Rattle.little.proofs.i24_of.Goals as goal

pub overflow_cast-result : goal.overflow_cast-result
overflow_cast-result c = search sign_ends

pub returns : goal.returns
returns c = search sign_ends
