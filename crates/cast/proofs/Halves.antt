-- What `From` picks, by halves of a width: the variant that the definition finds among all the smaller ones. Rests on
-- the laws of ranges: what half a width does not hold, no smaller width of that sign holds. And what fits a width past
-- its signed half.
use mathlib.Core.Path.{◌≡◌, refl, ◌∙◌, sym}
use mathlib.Core.Bool.{true, false, false≢true}
use Prim.Native.Nat.{ℕ, ◌-◌, ◌^◌}
use native.Mathlib.Omega.{arith}
use lib.Dec.{T, ltb, leb}
use lib.Pow.{pow_pos}
use lib.IntN.{ℤ, pos, negsuc, nat_abs}
use lib.Signed.{le_z}
use mir.Syntax.{Sign, unsigned, signed, Width, w8, w16, w32, w64, w128}
use mir.Val.{bits, hbits, bytes, Fits}
use borrow.Author.Tests.{lt-ltb, leb-true}
use Rattle.types.specs.declared.Integer.{Integer}
use Rattle.cast.specs.Variants.{variant, in_range}
use Rattle.cast.specs.Froms.{tried, from}
use Rattle.cast.proofs.Ranges.{narrower, natural_fits}

-- half a width; the narrowest has none, and stands for itself
abbrev pub half : Width → Width
half w8 = w8
half w16 = w8
half w32 = w16
half w64 = w32
half w128 = w64

-- half the width holds the value
pub from-half : (s : Sign) (w : Width) (z : ℤ) → in_range s (half w) z ≡ true → from s (half w) z ≡ from s w z
unfolding from
from-half s w8 z h = refl
from-half signed w16 z h = simp h
from-half signed w32 z h = simp h
from-half signed w64 z h = simp h
from-half signed w128 z h = simp h
from-half unsigned w16 z h = simp h
from-half unsigned w32 z h = simp h
from-half unsigned w64 z h = simp h
from-half unsigned w128 z h = simp h

-- half the width holds it unsigned only
pub from_crossed : (w : Width) → T (ltb (bytes (half w)) (bytes w)) → (z : ℤ) → in_range signed (half w) z ≡ false →
    in_range unsigned (half w) z ≡ true → from unsigned (half w) z ≡ from signed w z
unfolding from
from_crossed w8 n z h k = absurd n
from_crossed w16 n z h k = simp (h, k)
from_crossed w32 n z h k = simp (narrower signed w8 w16 tt z h, h, k)
from_crossed w64 n z h k = simp (narrower signed w8 w32 tt z h, narrower signed w16 w32 tt z h, h, k)
from_crossed w128 n z h k =
    simp (narrower signed w8 w64 tt z h, narrower signed w16 w64 tt z h, narrower signed w32 w64 tt z h, h, k)

-- half the width does not hold it, so no smaller width does
passed_by : (s : Sign) (u v : Width) → T (leb (bytes u) (bytes v)) → (z : ℤ) (x : Integer) → in_range s v z ≡ false →
    in_range unsigned v z ≡ false → x ≡ tried s u z x
passed_by signed u v t z x h k = simp (narrower signed u v t z h, narrower unsigned u v t z k)
passed_by unsigned u v t z x h k = simp (narrower unsigned u v t z k)

pub from_own : (s : Sign) (w : Width) → T (ltb (bytes (half w)) (bytes w)) → (z : ℤ) → in_range s (half w) z ≡ false →
    in_range unsigned (half w) z ≡ false → variant s w z ≡ from s w z
unfolding from
from_own s w8 n z h k = absurd n
from_own s w16 n z h k = passed_by s w8 w8 tt z _ h k
from_own s w32 n z h k = passed_by s w16 w16 tt z _ h k ∙ passed_by s w8 w16 tt z _ h k
from_own s w64 n z h k =
    passed_by s w32 w32 tt z _ h k ∙ passed_by s w16 w32 tt z _ h k ∙ passed_by s w8 w32 tt z _ h k
from_own s w128 n z h k =
    passed_by s w64 w64 tt z _ h k ∙ passed_by s w32 w64 tt z _ h k ∙ passed_by s w16 w64 tt z _ h k
    ∙ passed_by s w8 w64 tt z _ h k

-- ---- a number past the signed half of a width

in_unsigned : (v : Width) (k : ℕ) (z : ℤ) → le_z z (pos k) ≡ false → le_z z (pos (2 ^ bits v - 1)) ≡ true →
    in_range unsigned v z ≡ true
in_unsigned v k (pos m) h l =
    let i = leb-true m (2 ^ bits v - 1) l in lt-ltb m (2 ^ bits v) (omega (arith, pow_pos (bits v)))
in_unsigned v k (negsuc m) h l = absurd (false≢true (sym h))

-- it fits the width, unsigned
module _ (v : Width) (z : ℤ) where
  pub between_fits : le_z z (pos (2 ^ hbits v - 1)) ≡ false → le_z z (pos (2 ^ bits v - 1)) ≡ true → Fits v (nat_abs z)
  between_fits h l = natural_fits v z (in_unsigned v (2 ^ hbits v - 1) z h l)
