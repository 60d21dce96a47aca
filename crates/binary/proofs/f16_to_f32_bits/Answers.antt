use Rattle.binary.proofs.Ends.{widen_ends}
use Rattle.binary.proofs.f16_to_f32_bits.Goals as goal

pub overflow_add-result : goal.overflow_add-result
overflow_add-result c = search widen_ends

pub returns-then-exponent-eq0 : goal.returns-then-exponent-eq0
returns-then-exponent-eq0 c = search widen_ends

pub returns-then-exponent-lt31 : goal.returns-then-exponent-lt31
returns-then-exponent-lt31 c = search widen_ends

pub returns-then-fraction-eq0 : goal.returns-then-fraction-eq0
returns-then-fraction-eq0 c = search widen_ends

pub returns : goal.returns
returns c = search widen_ends
