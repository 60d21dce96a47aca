-- `float_cast::clamp_i64` meets its contract: two's complement of the clamped magnitude.
use Rattle.float_cast.proofs.Clamps.{clamp_ends}
use Rattle.float_cast.proofs.clamp_i64.Goals as goal

pub returns-then-negative : goal.returns-then-negative
returns-then-negative c = search clamp_ends

pub returns : goal.returns
returns c = search clamp_ends
