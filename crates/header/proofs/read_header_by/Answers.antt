-- `header::read_header_by` meets its contract: the word of the four bytes is judged, at the place that each way leaves.
use Rattle.header.proofs.Ends.{version_ends}
use Rattle.header.proofs.read_header_by.Goals as goal

pub returns-then-source-at-ge4 : goal.returns-then-source-at-ge4
returns-then-source-at-ge4 c = search version_ends

pub returns-then-is_exact : goal.returns-then-is_exact
returns-then-is_exact c = search version_ends

pub returns : goal.returns
returns c = search version_ends
