use Rattle.letters.proofs.Counting.{pair_ends}
use Rattle.letters.proofs.letters_by_pairs.Goals as goal

pub loop-i-preserved : goal.loop-i-preserved
loop-i-preserved c = search pair_ends
