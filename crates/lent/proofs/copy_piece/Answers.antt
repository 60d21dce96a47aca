use Rattle.lent.proofs.Copies.{block_ends}
use Rattle.lent.proofs.copy_piece.Goals as goal

pub returns : goal.returns
returns c = search block_ends
