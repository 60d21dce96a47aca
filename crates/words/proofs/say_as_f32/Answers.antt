-- `words::say_as_f32` meets its contract: each arm says its case of the answer.
use Rattle.words.specs.Layout.{said_as_f32}
use Rattle.words.proofs.Ends.{number_said, words_said, parts}
use Rattle.words.proofs.say_as_f32.Goals as goal

pub returns-in-Ok-clause-value : goal.returns-in-Ok-clause-value
unfolding said_as_f32
returns-in-Ok-clause-value c = search (number_said said_as_f32, words_said said_as_f32, parts)

pub returns-in-Ok-clause-words_after : goal.returns-in-Ok-clause-words_after
unfolding said_as_f32
returns-in-Ok-clause-words_after c = search (number_said said_as_f32, words_said said_as_f32, parts)

pub returns-in-Err-clause-value : goal.returns-in-Err-clause-value
unfolding said_as_f32
returns-in-Err-clause-value c = search (number_said said_as_f32, words_said said_as_f32, parts)

pub returns-in-Err-clause-words_after : goal.returns-in-Err-clause-words_after
unfolding said_as_f32
returns-in-Err-clause-words_after c = search (number_said said_as_f32, words_said said_as_f32, parts)
