-- `header::write_long` meets its contract.
use Rattle.header.proofs.Writes.{long_ends}
use Rattle.header.proofs.write_long.Goals as goal

pub returns-clause-out_after : goal.returns-clause-out_after
returns-clause-out_after c = search long_ends
