-- `header::read_atom_header_by` meets its contract: the first byte decides, and the later bytes are `read_later`'s.
use Rattle.header.proofs.Ends.{header_ends}
use Rattle.header.proofs.read_atom_header_by.Goals as goal

pub returns-then-first_byte-eq0 : goal.returns-then-first_byte-eq0
returns-then-first_byte-eq0 c = search header_ends

pub returns-then-at-source : goal.returns-then-at-source
returns-then-at-source c = search header_ends

pub returns-then-is_exact : goal.returns-then-is_exact
returns-then-is_exact c = search header_ends

pub returns : goal.returns
returns c = search header_ends
