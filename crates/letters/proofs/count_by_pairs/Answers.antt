use Rattle.letters.proofs.Counting.{pairs_ends}
use Rattle.letters.proofs.count_by_pairs.Goals as goal

pub returns : goal.returns
returns c = search pairs_ends
