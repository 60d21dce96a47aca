use Rattle.binary.proofs.Nan.{float_ends}
use Rattle.binary.proofs.f64_of_bits.Goals as goal

pub float_from_bits-result : goal.float_from_bits-result
float_from_bits-result c = search float_ends

pub returns-else-b-le9218868437227405312 : goal.returns-else-b-le9218868437227405312
returns-else-b-le9218868437227405312 c = search float_ends
