use Rattle.lent.proofs.Copies.{copies}
use Rattle.lent.proofs.copy_ends.Goals as goal

pub returns : goal.returns
returns g c = search copies
