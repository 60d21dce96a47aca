-- `shortest::shortest_header` meets its contract: the last byte decides.
use Rattle.shortest.proofs.Standing.{header_ends}
use Rattle.shortest.proofs.shortest_header.Goals as goal

pub returns-then-last-eq0 : goal.returns-then-last-eq0
returns-then-last-eq0 c = search header_ends

pub returns-then-end-places-eq9 : goal.returns-then-end-places-eq9
returns-then-end-places-eq9 c = search header_ends

pub returns : goal.returns
returns c = search header_ends
