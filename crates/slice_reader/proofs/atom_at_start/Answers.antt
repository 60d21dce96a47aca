-- `slice_reader::atom_at_start` meets its contract: what `atom::read_atom_by` ensures at the place 0, with no scratch,
-- is the definition.
use borrow.Author.Rules.{rules}
use Rattle.slice_reader.specs.Given.{atom_given}
use Rattle.slice_reader.proofs.atom_at_start.Goals as goal

pub returns : goal.returns
unfolding atom_given
returns c = search rules
