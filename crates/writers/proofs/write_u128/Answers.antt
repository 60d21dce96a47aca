-- `writers::write_u128` meets its contract: the smaller writer of the low word, or both words.
use Rattle.writers.proofs.Words.{word_ends}
use Rattle.writers.proofs.write_u128.Goals as goal

pub returns-clause-value : goal.returns-clause-value
returns-clause-value c = search word_ends fits 300

pub returns-clause-out_after : goal.returns-clause-out_after
returns-clause-out_after c = search word_ends fits 300
