-- `float::equal` meets its contract: both values are widened, which keeps them, and compared.
use Rattle.float.proofs.Ends.{value_ends}
use Rattle.float.proofs.equal.Goals as goal

pub returns : goal.returns
returns c = search value_ends
