-- `words::say_written` meets its contract: each arm says its case of the answer.
use Rattle.words.specs.Layout.{said_written}
use Rattle.words.proofs.Ends.{number_said, words_said, parts}
use Rattle.words.proofs.say_written.Goals as goal

pub returns-in-Ok-clause-value : goal.returns-in-Ok-clause-value
unfolding said_written
returns-in-Ok-clause-value c = search (number_said said_written, words_said said_written, parts)

pub returns-in-Ok-clause-words_after : goal.returns-in-Ok-clause-words_after
unfolding said_written
returns-in-Ok-clause-words_after c = search (number_said said_written, words_said said_written, parts)

pub returns-in-Err-clause-value : goal.returns-in-Err-clause-value
unfolding said_written
returns-in-Err-clause-value c = search (number_said said_written, words_said said_written, parts)

pub returns-in-Err-clause-words_after : goal.returns-in-Err-clause-words_after
unfolding said_written
returns-in-Err-clause-words_after c = search (number_said said_written, words_said said_written, parts)
