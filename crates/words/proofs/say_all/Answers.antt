-- `words::say_all` meets its contract: the test for room is the definition's, and twelve stores are a prefix of twelve.
use Rattle.words.proofs.Ends.{index_ends, say_ends}
use Rattle.words.proofs.say_all.Goals as goal

pub returns-clause-words_after : goal.returns-clause-words_after
returns-clause-words_after c = search (index_ends, say_ends)
