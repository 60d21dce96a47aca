use Rattle.letters.proofs.Counting.{part_ends}
use Rattle.letters.proofs.letters_in_part.Goals as goal

pub loop-i-preserved : goal.loop-i-preserved
loop-i-preserved c = search part_ends
