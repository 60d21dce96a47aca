use Rattle.little.proofs.Signs.{sign_ends}
use Rattle.little.proofs.twos_of.Goals as goal

pub returns : goal.returns
returns g c = search sign_ends
