use Rattle.lent.proofs.Copies.{copies}
use Rattle.lent.proofs.+copy_halves.Goals as goal

pub returns : goal.returns
returns c = search copies
