use Rattle.little.proofs.Zeros.{fill_laws}
use Rattle.little.proofs.filled.Goals as goal

pub loop-i-preserved : goal.loop-i-preserved
loop-i-preserved c = search fill_laws

pub returns : goal.returns
returns c = search fill_laws
