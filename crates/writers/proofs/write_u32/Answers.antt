-- `writers::write_u32` meets its contract: the smaller writer, or this level.
use Rattle.writers.proofs.Ends.{unsigned_ends}
use Rattle.writers.proofs.write_u32.Goals as goal

pub returns-then-value-lt16777216-clause-value : goal.returns-then-value-lt16777216-clause-value
returns-then-value-lt16777216-clause-value c = search unsigned_ends fits 300

pub returns-then-value-lt16777216-clause-out_after : goal.returns-then-value-lt16777216-clause-out_after
returns-then-value-lt16777216-clause-out_after c = search unsigned_ends fits 300

pub returns-clause-value : goal.returns-clause-value
returns-clause-value c = search unsigned_ends fits 300

pub returns-clause-out_after : goal.returns-clause-out_after
returns-clause-out_after c = search unsigned_ends fits 300
