-- `float::is_small_f32` meets its contract: a comparison with a power of two, in units.
use lib.Ieee
use lib.Dec.{lit≤}
use borrow.Author.Rules.{rules}
use Rattle.binary.proofs.Units.{fine}
use Rattle.float.proofs.Compared.{both, neither}
use Rattle.float.proofs.is_small_f32.Goals as goal

pub float_from_bits-t-3 : goal.float_from_bits-t-3
unfolding Ieee.nan_bits Ieee.of_bits
float_from_bits-t-3 c = search rules

pub float_from_bits-result : goal.float_from_bits-result
unfolding Ieee.nan_bits Ieee.of_bits
float_from_bits-result c = search rules

pub returns-then-value : goal.returns-then-value
unfolding Ieee.nan_bits Ieee.of_bits
returns-then-value c = search (both 22 (lit≤ tt), fine Ieee.binary32, rules)

pub returns-else-value : goal.returns-else-value
unfolding Ieee.nan_bits Ieee.of_bits
returns-else-value c = search (neither 22 (lit≤ tt), fine Ieee.binary32, rules)
