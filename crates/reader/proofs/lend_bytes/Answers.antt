use Rattle.reader.proofs.Ends.{lent_ends}
use Rattle.reader.proofs.lend_bytes.Goals as goal

pub returns-then-length-end : goal.returns-then-length-end
returns-then-length-end c = search lent_ends

pub returns : goal.returns
returns c = search lent_ends
