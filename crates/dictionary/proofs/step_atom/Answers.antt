-- `dictionary::step_atom` meets its contract: the header's answer decides, and its place is within the source.
use Rattle.dictionary.proofs.Ends.{atom_ends}
use Rattle.dictionary.proofs.step_atom.Goals as goal

pub skip_body-requires : goal.skip_body-requires
skip_body-requires c = search (c.in_ok-next.was, atom_ends)

pub returns-in_err-next : goal.returns-in_err-next
returns-in_err-next c = search atom_ends

pub returns : goal.returns
returns c = search (c.in_ok-next.was, atom_ends)
