use Rattle.binary.proofs.Ends.{to_single_ends}
use Rattle.binary.proofs.f64_to_f32_bits.Goals as goal

pub returns-then-exponent-ge1151 : goal.returns-then-exponent-ge1151
returns-then-exponent-ge1151 c = search to_single_ends

pub returns-then-exponent-gt896 : goal.returns-then-exponent-gt896
returns-then-exponent-gt896 c = search to_single_ends

pub overflow_cast-sign-then-exponent-gt873 : goal.overflow_cast-sign-then-exponent-gt873
overflow_cast-sign-then-exponent-gt873 c = search to_single_ends

pub returns-then-exponent-gt873 : goal.returns-then-exponent-gt873
returns-then-exponent-gt873 c = search to_single_ends

pub returns : goal.returns
returns c = search to_single_ends
