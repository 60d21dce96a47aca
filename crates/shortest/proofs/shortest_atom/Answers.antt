-- `shortest::shortest_atom` meets its contract: by the length of its header.
use Rattle.shortest.proofs.Standing.{atom_ends}
use Rattle.shortest.proofs.shortest_atom.Goals as goal

pub shortest_header-requires : goal.shortest_header-requires
shortest_header-requires c = search atom_ends

pub returns : goal.returns
returns c = search atom_ends
