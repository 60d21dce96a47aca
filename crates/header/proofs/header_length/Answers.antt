-- `header::header_length` meets its contract: the first byte, and beyond 15 the bytes of the later part.
use Rattle.header.proofs.Writes.{length_ends}
use Rattle.header.proofs.header_length.Goals as goal

pub returns-then-arg-lt16 : goal.returns-then-arg-lt16
returns-then-arg-lt16 c = search length_ends

pub returns-else-arg-lt16 : goal.returns-else-arg-lt16
returns-else-arg-lt16 c = search length_ends
