-- `float::widen` meets its contract: a number keeps its value, and a NaN alone differs from itself.
use mathlib.Core.Path.{sym}
use lib.Ieee
use Rattle.binary.proofs.Nan.{self_nan}
use borrow.Author.Rules.{rules}
use Rattle.float.proofs.widen.Goals as goal

pub returns-else-value : goal.returns-else-value
unfolding Ieee.of_bits Ieee.div
returns-else-value c = sym (self_nan _ (search rules))
