use Rattle.little.proofs.Signs.{sign_ends}
use Rattle.little.proofs.i8_of.Goals as goal

pub returns : goal.returns
returns c = search sign_ends
