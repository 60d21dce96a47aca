-- What ties the byte counts that are written to those that are read.
use mathlib.Core.Path.{◌≡◌}
use mathlib.Core.Bool.{true}
use Prim.Native.Nat.{ℕ}
use Rattle.types.specs.Forms.{integers_written, listed, allowed_count}

-- every count that an integer is written with is one that integers are read with
pub written_read : (count : ℕ) → listed count integers_written ≡ true → allowed_count count ≡ true
written_read count h = h
