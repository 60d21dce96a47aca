-- `writers::write_bytes` meets its contract: the header, and the bytes in the part after it, are the one write of both.
use Rattle.writers.proofs.Others.{string_ends}
use Rattle.writers.proofs.write_bytes.Goals as goal

pub returns-clause-out_after : goal.returns-clause-out_after
returns-clause-out_after c = search string_ends fits 300
