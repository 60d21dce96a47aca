-- `writers::low_word_holds` meets its contract: above the low word stand zeros, ones, or both.
use Rattle.writers.proofs.Words.{word_ends}
use Rattle.writers.proofs.low_word_holds.Goals as goal

pub returns-then-hi-eq0 : goal.returns-then-hi-eq0
returns-then-hi-eq0 c = search word_ends fits 300

pub returns-then-hi : goal.returns-then-hi
returns-then-hi c = search word_ends fits 300

pub returns : goal.returns
returns c = search word_ends fits 300
