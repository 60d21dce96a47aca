-- `shortest::shortest_body` meets its contract: the first byte says the kind and the count.
use Rattle.shortest.proofs.Standing.{body_ends}
use Rattle.shortest.proofs.shortest_body.Goals as goal

pub shortest_int-requires : goal.shortest_int-requires
shortest_int-requires c = search body_ends

pub returns-in-1 : goal.returns-in-1
returns-in-1 c = search body_ends

pub shortest_uint-requires : goal.shortest_uint-requires
shortest_uint-requires c = search body_ends

pub returns-in-2 : goal.returns-in-2
returns-in-2 c = search body_ends

pub shortest_float-requires : goal.shortest_float-requires
shortest_float-requires c = search body_ends

pub returns-in-3 : goal.returns-in-3
returns-in-3 c = search body_ends

pub returns-in_default : goal.returns-in_default
returns-in_default c = search body_ends
