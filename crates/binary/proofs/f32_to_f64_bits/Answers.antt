use Rattle.binary.proofs.Ends.{widen_ends}
use Rattle.binary.proofs.f32_to_f64_bits.Goals as goal

pub overflow_add-result : goal.overflow_add-result
overflow_add-result c = search widen_ends

pub returns-then-exponent-eq0 : goal.returns-then-exponent-eq0
returns-then-exponent-eq0 c = search widen_ends

pub returns-then-exponent-lt255 : goal.returns-then-exponent-lt255
returns-then-exponent-lt255 c = search widen_ends

pub returns-then-fraction-eq0 : goal.returns-then-fraction-eq0
returns-then-fraction-eq0 c = search widen_ends

pub returns : goal.returns
returns c = search widen_ends
