-- `words::say_narrowed` meets its contract: the narrowing decides.
use Rattle.words.proofs.Ends.{narrowed_number, narrowed_words}
use Rattle.words.proofs.say_narrowed.Goals as goal

pub returns-in-Some-clause-value : goal.returns-in-Some-clause-value
returns-in-Some-clause-value c = search (narrowed_number, narrowed_words)

pub returns-in-Some-clause-words_after : goal.returns-in-Some-clause-words_after
returns-in-Some-clause-words_after c = search (narrowed_number, narrowed_words)

pub returns-in-None-clause-value : goal.returns-in-None-clause-value
returns-in-None-clause-value c = search (narrowed_number, narrowed_words)

pub returns-in-None-clause-words_after : goal.returns-in-None-clause-words_after
returns-in-None-clause-words_after c = search (narrowed_number, narrowed_words)
