use Rattle.reader.proofs.Ends.{part_ends}
use Rattle.reader.proofs.as_slice.Goals as goal

pub returns-then-mark-clause-result_value : goal.returns-then-mark-clause-result_value
returns-then-mark-clause-result_value c = search part_ends

pub returns-then-mark-clause-ref_ptr_value : goal.returns-then-mark-clause-ref_ptr_value
returns-then-mark-clause-ref_ptr_value c = search part_ends

pub returns-else-mark-clause-result_value : goal.returns-else-mark-clause-result_value
returns-else-mark-clause-result_value c = search part_ends

pub returns-else-mark-clause-ref_ptr_value : goal.returns-else-mark-clause-ref_ptr_value
returns-else-mark-clause-ref_ptr_value c = search part_ends
