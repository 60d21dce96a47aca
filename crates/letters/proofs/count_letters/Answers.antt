use Rattle.letters.proofs.Counting.{string_ends}
use Rattle.letters.proofs.count_letters.Goals as goal

pub returns : goal.returns
returns c = search string_ends
