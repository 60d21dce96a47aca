-- A signed number of the machine that is cast on to a wider type: it stands there as its bits, read back. Rests on the laws
-- of ranges. And a number that is not from 0 on is below 0, by its magnitude.
use mathlib.Core.Path.{◌≡◌, refl, ◌∙◌}
use mathlib.Core.Bool.{false}
use Prim.Native.Nat.{ℕ, ◌<◌}
use native.Mathlib.Omega.{arith}
use lib.Dec.{T, leb}
use lib.IntN.{ℤ, pos, negsuc}
use lib.Signed.{le_z, mag}
use mir.Syntax.{signed, Width}
use mir.Val.{bytes, SFits, to_z, of_z}
use mir.ValLaws.{to_z-of_z}
use borrow.Author.Tests.{leb-false}
use Rattle.cast.proofs.Ranges.{wider, signed_fits, fits_signed}

-- below 0
pub is_negative : (z : ℤ) → le_z (pos 0) z ≡ false → z ≡ negsuc (mag z)
is_negative (pos k) t = absurd (passes k (leb-false 0 k t))
  where
    passes : (k : ℕ) → k < 0 → ⊥
    passes k h = omega arith
is_negative (negsuc k) t = refl

module _ (v w : Width) (n : T (leb (bytes v) (bytes w))) (z : ℤ) (h : SFits v z) where
  pub through : SFits w (to_z v (of_z v z))
  through = rw (to_z-of_z v z h) (signed_fits w z (wider signed v w n z (fits_signed v z h)))

  pub through_is : to_z w (of_z w (to_z v (of_z v z))) ≡ z
  through_is = to_z-of_z w (to_z v (of_z v z)) through ∙ to_z-of_z v z h
