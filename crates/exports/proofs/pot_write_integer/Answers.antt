-- `exports::pot_write_integer` meets its contract: a code that names one is written, another refused.
use Rattle.exports.proofs.Ends.{code_ends}
use Rattle.exports.proofs.pot_write_integer.Goals as goal

pub returns-in-Err-clause-value : goal.returns-in-Err-clause-value
returns-in-Err-clause-value c = search code_ends

pub returns-in-Err-clause-words_after : goal.returns-in-Err-clause-words_after
returns-in-Err-clause-words_after c = search code_ends
