-- `writers::write_i64` meets its contract: the smaller writer, or this level.
use Rattle.writers.proofs.Ends.{signed_ends}
use Rattle.writers.proofs.write_i64.Goals as goal

pub returns-then-magnitude-lt140737488355328-clause-value : goal.returns-then-magnitude-lt140737488355328-clause-value
returns-then-magnitude-lt140737488355328-clause-value c = search signed_ends fits 300

pub returns-then-magnitude-lt140737488355328-clause-out_after : goal.returns-then-magnitude-lt140737488355328-clause-out_after
returns-then-magnitude-lt140737488355328-clause-out_after c = search signed_ends fits 300

pub returns-clause-value : goal.returns-clause-value
returns-clause-value c = search signed_ends fits 300

pub returns-clause-out_after : goal.returns-clause-out_after
returns-clause-out_after c = search signed_ends fits 300
