-- The laws of widening and narrowing that other crates cite. W is `half-single` or `single-double`
-- of `Widths`.
use Rattle.std.specs.Prelude.{Some, None, Option}
use mathlib.Core.Path.{◌≡◌, refl, sym, ap, ◌∙◌, subst}
use mathlib.Core.Bool.{Bool}
use Prim.Native.Nat.{ℕ, suc, ◌+◌, ◌-◌, ◌*◌, ◌%◌, ◌^◌, ◌≤◌, ◌<◌}
use native.Mathlib.Nat.{add-zero, zero-mul, le_of_lt, le_of_eq, mod-lt, pow-suc}
use native.Mathlib.Omega.{arith}
use lib.Pow.{pow_pos}
use Rattle.binary.specs.Formats.{Layout, leading, sign_weight, all_ones, negative, exponent, fraction, unit}
use Rattle.binary.specs.Formats.{smallests, magnitude, finite, infinite, nan, meaning, NotNan, SameValue}
use Rattle.binary.specs.Conversions.{with_sign, infinity, quieted, widened, narrowed_meaning}
use Rattle.binary.specs.Conversions.{narrowed, Narrows}
use Rattle.binary.proofs.Patterns.{rest_lt, signed_lt, fraction_lt, meaning_signed, meant-finite, meant-nan}
use Rattle.binary.proofs.Patterns.{Reading, is_finite, is_infinite, is_nan_lem, reading, one_pattern}
use Rattle.binary.proofs.Narrowing.{narrows, one_answer, infinite_here, infinity_lt}
use Rattle.binary.proofs.Widths.{Widens, lifted}
use Rattle.binary.proofs.Widening.{widened_by, widens_to, widens_infinity}

-- ---- narrowing, over any two layouts

-- The pattern that is answered has the value.
pub narrowed_sound : (from to : Layout) (b q : ℕ) → narrowed from to b ≡ Some q → SameValue from to b q
narrowed_sound from to b q h = subst (λ (n : Option ℕ). Narrows from to b n) h (narrows from to b)

-- Where a pattern has the value, that pattern is answered.
pub narrowed_complete : (from to : Layout) (b q : ℕ) → SameValue from to b q → narrowed from to b ≡ Some q
narrowed_complete from to b q v = one_answer from to b (narrowed from to b) (Some q) (narrows from to b) v

-- Where none is answered, no pattern has the value.
pub narrowed-lost : (from to : Layout) (b : ℕ) → narrowed from to b ≡ None → (q : ℕ) → SameValue from to b q → ⊥
narrowed-lost from to b h = subst (λ (n : Option ℕ). Narrows from to b n) h (narrows from to b)

-- A NaN has no narrower pattern.
pub narrowed-nan : (from to : Layout) (b : ℕ) (s : Bool) (t : ℕ) → meaning from b ≡ nan s t → narrowed from to b ≡ None
unfolding narrowed
narrowed-nan from to b s t h = ap (narrowed_meaning to) h

-- Both zeros and both infinities narrow.
zero_magnitude : (f : Layout) → magnitude f 0 0 ≡ 0
unfolding smallests
zero_magnitude f = zero-mul (2 ^ unit f)

pub narrowed_zero : (from to : Layout) (b : ℕ) (s : Bool) → 0 < all_ones to → meaning from b ≡ finite s 0 →
    narrowed from to b ≡ Some (with_sign to s 0)
narrowed_zero from to b s o h =
    let m : meaning to (with_sign to s 0) ≡ finite s 0 =
    ap (λ (x : ℕ). meaning to (with_sign to s x)) (sym (add-zero (0 * leading to) ∙ zero-mul (leading to)))
    ∙ meaning_signed to s 0 0 (le_of_lt o) (pow_pos to.fraction_bits)
    ∙ meant-finite to s 0 0 o
    ∙ ap (finite s) (zero_magnitude to) in
    narrowed_complete from to b (with_sign to s 0)
    (signed_lt to s 0 (pow_pos (to.exponent_bits + to.fraction_bits)), subst NotNan (sym h) tt, m ∙ sym h)

pub narrowed-infinite : (from to : Layout) (b : ℕ) (s : Bool) → meaning from b ≡ infinite s →
    narrowed from to b ≡ Some (with_sign to s (infinity to))
unfolding narrowed
narrowed-infinite from to b s h = ap (narrowed_meaning to) h

-- ---- widening keeps the sign and the magnitude

module _ {narrow wide : Layout} {lift more : ℕ} (W : Widens narrow wide lift more) where
  widened_number : (b : ℕ) → Reading narrow b → NotNan (meaning narrow b)
      → (widened narrow wide b < 2 * sign_weight wide) × (meaning wide (widened narrow wide b) ≡ meaning narrow b)
  widened_number b (is_finite e m) n =
      let k = lifted W (exponent narrow b) (fraction narrow b) e (fraction_lt narrow b) in
      let s = negative narrow b in
      let l : k.0 ≤ all_ones wide = le_of_lt k.2 in
      rw (widens_to narrow wide b k.0 k.1 e k.3 k.4) (
        signed_lt wide s (k.0 * leading wide + k.1) (rest_lt wide k.0 k.1 l k.3),
        meaning_signed wide s k.0 k.1 l k.3 ∙ meant-finite wide s k.0 k.1 k.2
            ∙ ap (finite s) (sym k.4) ∙ sym m,
      )
  widened_number b (is_infinite e z m) n =
      rw (widens_infinity narrow wide b e z)
      (infinity_lt wide (negative narrow b), infinite_here wide (negative narrow b) ∙ sym m)
  widened_number b (is_nan_lem e z m) n = absurd (subst NotNan m n)

  pub widened_lt : (b : ℕ) → NotNan (meaning narrow b) → widened narrow wide b < 2 * sign_weight wide
  widened_lt b n = (widened_number b (reading narrow b) n).0

  pub widened_keeps : (b : ℕ) → NotNan (meaning narrow b) → meaning wide (widened narrow wide b) ≡ meaning narrow b
  widened_keeps b n = (widened_number b (reading narrow b) n).1

  -- ---- and back

  pub widened-narrowed : (b q : ℕ) → b < 2 * sign_weight wide → narrowed wide narrow b ≡ Some q →
      widened narrow wide q ≡ b
  widened-narrowed b q B h =
      let v = narrowed_sound wide narrow b q h in
      let n : NotNan (meaning narrow q) = subst NotNan (sym v.2) v.1 in
      one_pattern wide (widened narrow wide q) b (widened_lt q n) B (widened_keeps q n ∙ v.2)

-- ---- a NaN's bits

half_and_half : (h t : ℕ) → t < h → h + t < h * 2
half_and_half h t l = omega arith

quieted_lt : (p x : ℕ) → 0 < p → 2 ^ (p - 1) + x % 2 ^ (p - 1) < 2 ^ p
quieted_lt p x h =
    let e : p ≡ suc (p - 1) = omega arith in
    subst (λ (y : ℕ). 2 ^ (p - 1) + x % 2 ^ (p - 1) < y) (sym (ap (λ (y : ℕ). 2 ^ y) e ∙ pow-suc 2 (p - 1)))
    (half_and_half (2 ^ (p - 1)) (x % 2 ^ (p - 1)) (mod-lt x (pow_pos (p - 1))))

quieted_pos : (h x : ℕ) → 0 < h → 0 < h + x
quieted_pos h x l = omega arith

-- the sign is kept, and the fraction is moved up with the quiet bit set
pub widened-nan : (from to : Layout) (b : ℕ) (s : Bool) (t : ℕ) → 0 < to.fraction_bits → meaning from b ≡ nan s t
    → meaning to (widened from to b) ≡ nan s (quieted to (t * 2 ^ (to.fraction_bits - from.fraction_bits)))
widened-nan from to b s t p h =
    let u = quieted to (t * 2 ^ (to.fraction_bits - from.fraction_bits)) in
    let l : u < leading to = quieted_lt to.fraction_bits (t * 2 ^ (to.fraction_bits - from.fraction_bits)) p in
    ap (meaning to) (widened_by from to b (nan s t) h)
    ∙ meaning_signed to s (all_ones to) u (le_of_eq refl) l
    ∙ meant-nan to s (all_ones to) u refl
    (quieted_pos (2 ^ (to.fraction_bits - 1))
    (t * 2 ^ (to.fraction_bits - from.fraction_bits) % 2 ^ (to.fraction_bits - 1)) (pow_pos (to.fraction_bits - 1)))
