-- `shortest::shortest_float` meets its contract: each arm by its width.
use Rattle.shortest.proofs.Arms.{float_ends}
use Rattle.shortest.proofs.shortest_float.Goals as goal

pub returns-in-2 : goal.returns-in-2
returns-in-2 c = search float_ends

pub le8-requires : goal.le8-requires
le8-requires c = search float_ends

pub returns-in_default : goal.returns-in_default
returns-in_default c = search float_ends
