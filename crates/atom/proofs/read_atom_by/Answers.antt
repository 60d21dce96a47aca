-- `atom::read_atom_by` meets its contract: the header, and then what follows it.
use Rattle.atom.proofs.Ends.{atom_ends}
use Rattle.atom.proofs.read_atom_by.Goals as goal

pub returns-in_err-body-clause-value : goal.returns-in_err-body-clause-value
returns-in_err-body-clause-value c = search atom_ends

pub returns-in_err-body-clause-scratch_after : goal.returns-in_err-body-clause-scratch_after
returns-in_err-body-clause-scratch_after c = search atom_ends

pub read_body-requires : goal.read_body-requires
read_body-requires c = search (c.in_ok-body.was, atom_ends)

pub returns-clause-value : goal.returns-clause-value
returns-clause-value c = search (c.in_ok-body.was, atom_ends)

pub returns-clause-scratch_after : goal.returns-clause-scratch_after
returns-clause-scratch_after c = search (c.in_ok-body.was, atom_ends)
