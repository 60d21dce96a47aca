-- `header::write_atom_header` meets its contract: one byte is `put_one`'s, more are `write_long`'s.
use Rattle.header.proofs.Writes.{atom_header_ends}
use Rattle.header.proofs.write_atom_header.Goals as goal

pub returns-then-arg-lt16-clause-value : goal.returns-then-arg-lt16-clause-value
returns-then-arg-lt16-clause-value c = search atom_header_ends

pub returns-then-arg-lt16-clause-out_after : goal.returns-then-arg-lt16-clause-out_after
returns-then-arg-lt16-clause-out_after c = search atom_header_ends

pub returns-then-has_room-clause-value : goal.returns-then-has_room-clause-value
returns-then-has_room-clause-value c = search atom_header_ends

pub returns-then-has_room-clause-out_after : goal.returns-then-has_room-clause-out_after
returns-then-has_room-clause-out_after c = search atom_header_ends

pub returns-clause-value : goal.returns-clause-value
returns-clause-value c = search atom_header_ends

pub returns-clause-out_after : goal.returns-clause-out_after
returns-clause-out_after c = search atom_header_ends
