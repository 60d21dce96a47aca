use Rattle.reader.proofs.Ends.{raw_ends}
use Rattle.reader.proofs.read.Goals as goal

pub returns-clause-value : goal.returns-clause-value
returns-clause-value c = search raw_ends

pub returns-clause-buffer_after : goal.returns-clause-buffer_after
returns-clause-buffer_after c = search raw_ends
