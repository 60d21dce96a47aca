-- `words::say_tally` meets its contract: each arm says its case of the answer.
use Rattle.words.specs.Layout.{said_tally}
use Rattle.words.proofs.Ends.{number_said, words_said, parts}
use Rattle.words.proofs.say_tally.Goals as goal

pub returns-in-Done-clause-value : goal.returns-in-Done-clause-value
unfolding said_tally
returns-in-Done-clause-value c = search (number_said said_tally, words_said said_tally, parts)

pub returns-in-Done-clause-words_after : goal.returns-in-Done-clause-words_after
unfolding said_tally
returns-in-Done-clause-words_after c = search (number_said said_tally, words_said said_tally, parts)

pub returns-in-Stopped-clause-value : goal.returns-in-Stopped-clause-value
unfolding said_tally
returns-in-Stopped-clause-value c = search (number_said said_tally, words_said said_tally, parts)

pub returns-in-Stopped-clause-words_after : goal.returns-in-Stopped-clause-words_after
unfolding said_tally
returns-in-Stopped-clause-words_after c = search (number_said said_tally, words_said said_tally, parts)

pub returns-in-Refused-clause-value : goal.returns-in-Refused-clause-value
unfolding said_tally
returns-in-Refused-clause-value c = search (number_said said_tally, words_said said_tally, parts)

pub returns-in-Refused-clause-words_after : goal.returns-in-Refused-clause-words_after
unfolding said_tally
returns-in-Refused-clause-words_after c = search (number_said said_tally, words_said said_tally, parts)
