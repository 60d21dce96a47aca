use Rattle.binary.proofs.Ends.{raise_ends}
use Rattle.binary.proofs.subnormal_f32.Goals as goal

pub returns-then-fraction-eq0 : goal.returns-then-fraction-eq0
returns-then-fraction-eq0 c = search raise_ends

pub overflow_sub-up : goal.overflow_sub-up
overflow_sub-up c = search raise_ends

pub overflow_add-result-2 : goal.overflow_add-result-2
overflow_add-result-2 c = search raise_ends

pub returns : goal.returns
returns c = search raise_ends
