use Rattle.binary.proofs.Ends.{to_half_ends}
use Rattle.binary.proofs.f32_to_f16_bits.Goals as goal

pub returns-then-exponent-ge143 : goal.returns-then-exponent-ge143
returns-then-exponent-ge143 c = search to_half_ends

pub returns-then-exponent-gt112 : goal.returns-then-exponent-gt112
returns-then-exponent-gt112 c = search to_half_ends

pub overflow_cast-sign-then-exponent-gt102 : goal.overflow_cast-sign-then-exponent-gt102
overflow_cast-sign-then-exponent-gt102 c = search to_half_ends

pub returns-then-exponent-gt102 : goal.returns-then-exponent-gt102
returns-then-exponent-gt102 c = search to_half_ends

pub returns : goal.returns
returns c = search to_half_ends
