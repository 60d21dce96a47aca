use Rattle.letters.proofs.Largest.{ascii_ends}
use Rattle.letters.proofs.count_word.Goals as goal

pub returns-then-largest_of_few-lt128 : goal.returns-then-largest_of_few-lt128
returns-then-largest_of_few-lt128 c = search ascii_ends
