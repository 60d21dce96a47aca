-- Ranges by width, and the variant that holds a value of its range: its width and its value are those it was made of.
use mathlib.Core.Path.{◌≡◌, refl, ◌∙◌, sym, ap}
use mathlib.Core.Bool.{Bool, true, false, false≢true}
use Prim.Native.Nat.{ℕ, ◌*◌, ◌^◌, ◌≤◌}
use native.Mathlib.Nat.{lt_of_lt_of_le}
use native.Mathlib.Omega.{arith}
use lib.Dec.{T, eqb, leb, ltb, leb→le, ltb→lt}
use lib.Ieee.Bits.{is_true}
use lib.Pow.{pow_mono}
use lib.IntN.{ℤ, pos, negsuc, nat_abs}
use lib.Signed.{mag}
use mir.Syntax.{Sign, unsigned, signed, Width, w8, w16, w32, w64, w128}
use mir.Val.{bits, hbits, bytes, Fits, SFits, to_z, of_z}
use mir.ValLaws.{to_z-of_z, bits-suc}
use borrow.Author.Tests.{lt-ltb, ltb-true, eqb-true}
use Rattle.types.specs.Values.{value}
use Rattle.types.proofs.Values.{joined_words}
use Rattle.cast.specs.Variants.{width, variant, in_range}
use Rattle.cast.proofs.Places.{every}

pub signed_fits : (w : Width) (z : ℤ) → in_range signed w z ≡ true → SFits w z
signed_fits w z h = record { sfits = ltb-true (mag z) (2 ^ hbits w) h }

pub fits_signed : (w : Width) (z : ℤ) → SFits w z → in_range signed w z ≡ true
fits_signed w z f = lt-ltb (mag z) (2 ^ hbits w) f.sfits

pub fits-unsigned : (w : Width) (n : ℕ) → Fits w n → in_range unsigned w (pos n) ≡ true
fits-unsigned w n f = lt-ltb n (2 ^ bits w) f.fits

-- a byte is eight bits
bits-bytes : (w : Width) → bits w ≡ 8 * bytes w
bits-bytes w = eqb-true (bits w) (8 * bytes w) (is_true _ (every (λ (v : Width). eqb (bits v) (8 * bytes v)) tt w))

-- so the order of widths, by bytes, is that of their bits
bits_le : (v w : Width) → T (leb (bytes v) (bytes w)) → bits v ≤ bits w
bits_le v w t = omega (arith, leb→le (bytes v) (bytes w) t, bits-bytes v, bits-bytes w)

hbits_le : (v w : Width) → T (leb (bytes v) (bytes w)) → hbits v ≤ hbits w
hbits_le v w t = omega (arith, leb→le (bytes v) (bytes w) t, bits-bytes v, bits-bytes w, bits-suc v, bits-suc w)

bits-hbits : (v w : Width) → T (ltb (bytes v) (bytes w)) → bits v ≤ hbits w
bits-hbits v w t = omega (arith, ltb→lt (bytes v) (bytes w) t, bits-bytes v, bits-bytes w, bits-suc w)

hbits-bits : (v w : Width) → T (leb (bytes v) (bytes w)) → hbits v ≤ bits w
hbits-bits v w t = omega (arith, leb→le (bytes v) (bytes w) t, bits-bytes v, bits-bytes w, bits-suc v)

raised : (n i j : ℕ) → i ≤ j → ltb n (2 ^ i) ≡ true → ltb n (2 ^ j) ≡ true
raised n i j h t = lt-ltb n (2 ^ j) (lt_of_lt_of_le (ltb-true n (2 ^ i) t) (pow_mono h))

-- what a width holds, a wider one of the same sign holds
pub wider : (s : Sign) (v w : Width) → T (leb (bytes v) (bytes w)) → (z : ℤ) → in_range s v z ≡ true →
    in_range s w z ≡ true
wider signed v w t z h = raised (mag z) (hbits v) (hbits w) (hbits_le v w t) h
wider unsigned v w t (pos n) h = raised n (bits v) (bits w) (bits_le v w t) h
wider unsigned v w t (negsuc n) h = h

-- what an unsigned width holds, every wider signed one holds
pub wider_signed : (v w : Width) → T (ltb (bytes v) (bytes w)) → (z : ℤ) → in_range unsigned v z ≡ true →
    in_range signed w z ≡ true
wider_signed v w t (pos n) h = raised n (bits v) (hbits w) (bits-hbits v w t) h
wider_signed v w t (negsuc n) h = absurd (false≢true h)

-- what a signed width holds from 0 up, the unsigned width and every wider one hold
pub wider_unsigned : (v w : Width) → T (leb (bytes v) (bytes w)) → (n : ℕ) → in_range signed v (pos n) ≡ true →
    in_range unsigned w (pos n) ≡ true
wider_unsigned v w t n h = raised n (hbits v) (bits w) (hbits-bits v w t) h

-- a value of an unsigned range is its magnitude, which fits the machine's number
pub is_natural : (w : Width) (z : ℤ) → in_range unsigned w z ≡ true → pos (nat_abs z) ≡ z
is_natural w (pos n) h = refl
is_natural w (negsuc n) h = absurd (false≢true h)

pub natural_fits : (w : Width) (z : ℤ) → in_range unsigned w z ≡ true → Fits w (nat_abs z)
natural_fits w (pos n) h = record { fits = ltb-true n (2 ^ bits w) h }
natural_fits w (negsuc n) h = absurd (false≢true h)

-- and what a width does not hold, no narrower one of the same sign holds
pub narrower : (s : Sign) (v w : Width) → T (leb (bytes v) (bytes w)) → (z : ℤ) → in_range s w z ≡ false →
    in_range s v z ≡ false
narrower s v w t z h = by (in_range s v z) refl
  where
    by : (b : Bool) → in_range s v z ≡ b → in_range s v z ≡ false
    by true e = absurd (false≢true (sym h ∙ wider s v w t z e))
    by false e = e

-- ---- the variant that holds a value

pub variant-width : (s : Sign) (w : Width) (z : ℤ) → width (variant s w z) ≡ w
variant-width signed w8 z = refl
variant-width signed w16 z = refl
variant-width signed w32 z = refl
variant-width signed w64 z = refl
variant-width signed w128 z = refl
variant-width unsigned w8 z = refl
variant-width unsigned w16 z = refl
variant-width unsigned w32 z = refl
variant-width unsigned w64 z = refl
variant-width unsigned w128 z = refl

pub variant-value : (s : Sign) (w : Width) (z : ℤ) → in_range s w z ≡ true → value (variant s w z) ≡ z
variant-value signed w8 z h = refl
variant-value signed w16 z h = refl
variant-value signed w32 z h = refl
variant-value signed w64 z h = refl
variant-value signed w128 z h = ap (to_z w128) (joined_words (of_z w128 z)) ∙ to_z-of_z w128 z (signed_fits w128 z h)
variant-value unsigned w (negsuc n) h = absurd (false≢true h)
variant-value unsigned w8 (pos n) h = refl
variant-value unsigned w16 (pos n) h = refl
variant-value unsigned w32 (pos n) h = refl
variant-value unsigned w64 (pos n) h = refl
variant-value unsigned w128 (pos n) h = ap pos (joined_words n)
