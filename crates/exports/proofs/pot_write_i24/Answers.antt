-- `exports::pot_write_i24` meets its contract: with room for the words, the write is done and its answer said.
use Rattle.exports.proofs.Ends.{held_ends}
use Rattle.exports.proofs.pot_write_i24.Goals as goal

pub returns-clause-value : goal.returns-clause-value
returns-clause-value c = search held_ends

pub returns-clause-words_after : goal.returns-clause-words_after
returns-clause-words_after c = search held_ends

pub returns-clause-out_after : goal.returns-clause-out_after
returns-clause-out_after c = search held_ends
