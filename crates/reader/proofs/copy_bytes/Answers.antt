use Rattle.reader.proofs.Ends.{copied_ends}
use Rattle.reader.proofs.copy_bytes.Goals as goal

pub returns-then-left-length-clause-value : goal.returns-then-left-length-clause-value
returns-then-left-length-clause-value c = search copied_ends

pub returns-then-left-length-clause-scratch_after : goal.returns-then-left-length-clause-scratch_after
returns-then-left-length-clause-scratch_after c = search copied_ends

pub returns-then-scratch-count-clause-value : goal.returns-then-scratch-count-clause-value
returns-then-scratch-count-clause-value c = search copied_ends

pub returns-then-scratch-count-clause-scratch_after : goal.returns-then-scratch-count-clause-scratch_after
returns-then-scratch-count-clause-scratch_after c = search copied_ends

pub returns-clause-value : goal.returns-clause-value
returns-clause-value c = search copied_ends

pub returns-clause-scratch_after : goal.returns-clause-scratch_after
returns-clause-scratch_after c = search copied_ends
