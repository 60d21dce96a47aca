use Rattle.little.specs.Twos.{twos_bits}
use Rattle.little.proofs.Signs.{sign_ends}
use Rattle.little.proofs.bits_of_i32.Goals as goal

pub returns : goal.returns
unfolding twos_bits
returns c = search sign_ends
