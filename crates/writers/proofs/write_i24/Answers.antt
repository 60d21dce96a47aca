-- `writers::write_i24` meets its contract: refusal 8 first, then the smaller writer, or this level.
use Rattle.writers.proofs.Ends.{signed_ends}
use Rattle.writers.proofs.write_i24.Goals as goal

pub returns-then-size-ge8388608-clause-value : goal.returns-then-size-ge8388608-clause-value
returns-then-size-ge8388608-clause-value c = search signed_ends fits 300

pub returns-then-size-ge8388608-clause-out_after : goal.returns-then-size-ge8388608-clause-out_after
returns-then-size-ge8388608-clause-out_after c = search signed_ends fits 300

pub returns-then-size-lt32768-clause-value : goal.returns-then-size-lt32768-clause-value
returns-then-size-lt32768-clause-value c = search signed_ends fits 300

pub returns-then-size-lt32768-clause-out_after : goal.returns-then-size-lt32768-clause-out_after
returns-then-size-lt32768-clause-out_after c = search signed_ends fits 300

pub returns-clause-value : goal.returns-clause-value
returns-clause-value c = search signed_ends fits 300

pub returns-clause-out_after : goal.returns-clause-out_after
returns-clause-out_after c = search signed_ends fits 300
