-- `words::say_ran` meets its contract: each arm says its case of the answer.
use Rattle.words.specs.Layout.{said_ran}
use Rattle.words.proofs.Ends.{number_said, words_said, parts}
use Rattle.words.proofs.say_ran.Goals as goal

pub returns-in-Ok-clause-value : goal.returns-in-Ok-clause-value
unfolding said_ran
returns-in-Ok-clause-value c = search (number_said said_ran, words_said said_ran, parts)

pub returns-in-Ok-clause-words_after : goal.returns-in-Ok-clause-words_after
unfolding said_ran
returns-in-Ok-clause-words_after c = search (number_said said_ran, words_said said_ran, parts)

pub returns-in-Err-clause-value : goal.returns-in-Err-clause-value
unfolding said_ran
returns-in-Err-clause-value c = search (number_said said_ran, words_said said_ran, parts)

pub returns-in-Err-clause-words_after : goal.returns-in-Err-clause-words_after
unfolding said_ran
returns-in-Err-clause-words_after c = search (number_said said_ran, words_said said_ran, parts)
