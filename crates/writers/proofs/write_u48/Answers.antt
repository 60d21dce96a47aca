-- `writers::write_u48` meets its contract: refusal 8 first, then the smaller writer, or this level.
use Rattle.writers.proofs.Ends.{unsigned_ends}
use Rattle.writers.proofs.write_u48.Goals as goal

pub returns-then-value-ge281474976710656-clause-value : goal.returns-then-value-ge281474976710656-clause-value
returns-then-value-ge281474976710656-clause-value c = search unsigned_ends fits 300

pub returns-then-value-ge281474976710656-clause-out_after : goal.returns-then-value-ge281474976710656-clause-out_after
returns-then-value-ge281474976710656-clause-out_after c = search unsigned_ends fits 300

pub returns-then-value-lt4294967296-clause-value : goal.returns-then-value-lt4294967296-clause-value
returns-then-value-lt4294967296-clause-value c = search unsigned_ends fits 300

pub returns-then-value-lt4294967296-clause-out_after : goal.returns-then-value-lt4294967296-clause-out_after
returns-then-value-lt4294967296-clause-out_after c = search unsigned_ends fits 300

pub returns-clause-value : goal.returns-clause-value
returns-clause-value c = search unsigned_ends fits 300

pub returns-clause-out_after : goal.returns-clause-out_after
returns-clause-out_after c = search unsigned_ends fits 300
