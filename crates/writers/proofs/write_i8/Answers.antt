-- `writers::write_i8` meets its contract: the smallest level.
use Rattle.writers.proofs.Ends.{signed_ends}
use Rattle.writers.proofs.write_i8.Goals as goal

pub returns-clause-value : goal.returns-clause-value
returns-clause-value c = search signed_ends fits 300

pub returns-clause-out_after : goal.returns-clause-out_after
returns-clause-out_after c = search signed_ends fits 300
