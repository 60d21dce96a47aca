use Rattle.lent.proofs.Ends.{copying}
use Rattle.lent.proofs.copy_each.Goals as goal

pub returns : goal.returns
returns c = search copying
