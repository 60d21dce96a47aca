-- `header::write_header` meets its contract: four stores are a prefix of four bytes.
use Rattle.header.proofs.Writes.{signature_ends}
use Rattle.header.proofs.write_header.Goals as goal

pub returns-then-out-lt4-clause-value : goal.returns-then-out-lt4-clause-value
returns-then-out-lt4-clause-value c = search signature_ends

pub returns-then-out-lt4-clause-out_after : goal.returns-then-out-lt4-clause-out_after
returns-then-out-lt4-clause-out_after c = search signature_ends

pub returns-clause-value : goal.returns-clause-value
returns-clause-value c = search signature_ends

pub returns-clause-out_after : goal.returns-clause-out_after
returns-clause-out_after c = search signature_ends
