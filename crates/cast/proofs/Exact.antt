-- A whole number from -2 ^ p to 2 ^ p - 1 is a value of the format of p digits: the float that a cast makes of it has
-- its sign and its magnitude exactly, by IEEE 754. Rests on the library's `round_whole`, and on `binary`'s law of
-- units.
use mathlib.Core.Path.{◌≡◌, refl}
use mathlib.Core.Bool.{Bool, true, false}
use Prim.Native.Nat.{ℕ, suc, ◌*◌, ◌^◌}
use native.Mathlib.Nat.{le_of_lt}
use lib.Dec.{T, ltb, le→leb, lt→ltb}
use lib.IntN.{ℤ, pos, negsuc, nat_abs}
use lib.Signed.{mag}
use lib.Ieee
use lib.Ieee.Exact.{HasValue}
use lib.Ieee.Back.{round_whole}
use lib.Ieee.Fits.{of_int-fits}
use borrow.Author.Tests.{ltb-true}
use Rattle.binary.specs.Floats.{units_of}
use Rattle.binary.proofs.Units.{Fine, fine, counted}

-- what the cast asks
pub whole_ok : (f : Ieee.Format) (z : ℤ) → ltb (mag z) (2 ^ Ieee.prec f) ≡ true → T (Ieee.in_float f z)
unfolding Ieee.in_float
whole_ok f (pos n) h = le→leb n (2 ^ Ieee.prec f) (le_of_lt (ltb-true n (2 ^ Ieee.prec f) h))
whole_ok f (negsuc n) h = lt→ltb n (2 ^ Ieee.prec f) (ltb-true n (2 ^ Ieee.prec f) h)

-- the sign of a whole number
abbrev pub negative : ℤ → Bool
negative (pos n) = false
negative (negsuc n) = true

-- the float is finite, has the sign of z, and is nat_abs z in size
whole_exact : (f : Ieee.Format) (z : ℤ) → ltb (mag z) (2 ^ Ieee.prec f) ≡ true →
    HasValue (Ieee.of_int f z) (negative z) (nat_abs z) 1
unfolding Ieee.of_int
whole_exact f (pos n) h = round_whole f false n (le_of_lt (ltb-true n (2 ^ Ieee.prec f) h))
whole_exact f (negsuc n) h = round_whole f true (suc n) (ltb-true n (2 ^ Ieee.prec f) h)

-- ---- in units of 2 ^ -1074, as document 01 gives a finite float: "its sign and its magnitude counted in units of
-- 2^-1074"

-- the float is finite, of the sign s and of u units
abbrev pub Counted : Ieee.Float → Bool → ℕ → Type 0
Counted Ieee.nan s u = ⊥
Counted (Ieee.inf t) s u = ⊥
Counted (Ieee.fin t m e) s u = (t ≡ s) × (units_of m e ≡ u)

value_counted : (x : Ieee.Float) (s : Bool) (n : ℕ) → Fine x → HasValue x s n 1 → Counted x s (n * 2 ^ 1074)
value_counted Ieee.nan s n d h = h
value_counted (Ieee.inf t) s n d h = h
value_counted (Ieee.fin t m e) s n d h = (h.0, counted 0 1074 m n e refl d h.1)

pub whole_units : (f : Ieee.Format) (z : ℤ) → ltb (mag z) (2 ^ Ieee.prec f) ≡ true →
    Counted (Ieee.of_int f z) (negative z) (nat_abs z * 2 ^ 1074)
whole_units f z h =
    let x = Ieee.of_int f z in
    value_counted x (negative z) (nat_abs z) (fine f x (of_int-fits f z)) (whole_exact f z h)
