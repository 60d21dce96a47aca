use Rattle.little.proofs.Machine.{number_ends}
use Rattle.little.proofs.number.Goals as goal

pub returns : goal.returns
returns g c = search (number_ends, c.type_inv.s)
