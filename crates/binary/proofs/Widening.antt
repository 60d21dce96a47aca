-- What `widened` answers: by the fields that the number has in the wider format (`widens_to`), the infinity, and a
-- NaN's bits.
use mathlib.Core.Path.{◌≡◌, ap, ◌∙◌}
use Prim.Native.Nat.{ℕ, ◌+◌, ◌-◌, ◌*◌, ◌^◌, ◌<◌}
use native.Mathlib.Omega.{arith}
use Rattle.binary.specs.Formats.{Layout, leading, all_ones, negative, exponent, fraction, magnitude, Meaning, finite, infinite, nan, meaning}
use Rattle.binary.specs.Conversions.{with_sign, infinity, candidate, quieted, widened_meaning, widened}
use Rattle.binary.proofs.Patterns.{Reading, is_finite, is_infinite, is_nan_lem, reading, candidate_is}
use Rattle.binary.proofs.Narrowing.{finite-meaning}

pub widened_by : (from to : Layout) (b : ℕ) (m : Meaning) → meaning from b ≡ m →
    widened from to b ≡ widened_meaning from to m
unfolding widened
widened_by from to b m e = ap (widened_meaning from to) e

clash : (e o : ℕ) → e < o → e ≡ o → ⊥
clash e o h q = omega arith

some : (t : ℕ) → 0 < t → t ≡ 0 → ⊥
some t h q = omega arith

module _ (from to : Layout) (b : ℕ) where
  pub widens_to_candidate : exponent from b < all_ones from →
      widened from to b ≡ with_sign to (negative from b) (candidate to
      (magnitude from (exponent from b) (fraction from b)))
  widens_to_candidate F =
      widened_by from to b (finite (negative from b) (magnitude from (exponent from b) (fraction from b)))
      (finite-meaning from b F)

  pub widens_to : (e t : ℕ) → exponent from b < all_ones from → t < leading to →
      magnitude from (exponent from b) (fraction from b) ≡ magnitude to e t
      → widened from to b ≡ with_sign to (negative from b) (e * leading to + t)
  widens_to e t F T same =
      widens_to_candidate F
      ∙ ap (λ (x : ℕ). with_sign to (negative from b) (candidate to x)) same
      ∙ ap (λ (x : ℕ). with_sign to (negative from b) x) (candidate_is to e t T)

  pub widens_infinity : exponent from b ≡ all_ones from → fraction from b ≡ 0 →
      widened from to b ≡ with_sign to (negative from b) (infinity to)
  widens_infinity E Z = go (reading from b)
    where
      go : Reading from b → widened from to b ≡ with_sign to (negative from b) (infinity to)
      go (is_infinite e z m) = widened_by from to b (infinite (negative from b)) m
      go (is_finite e m) = absurd (clash (exponent from b) (all_ones from) e E)
      go (is_nan_lem e n m) = absurd (some (fraction from b) n Z)

  pub widens_nan : exponent from b ≡ all_ones from → (fraction from b ≡ 0 → ⊥)
      → widened from to b ≡ with_sign to (negative from b) (infinity to + quieted to
      (fraction from b * 2 ^ (to.fraction_bits - from.fraction_bits)))
  widens_nan E N = go (reading from b)
    where
      go : Reading from b →
          widened from to b ≡ with_sign to (negative from b) (infinity to + quieted to
          (fraction from b * 2 ^ (to.fraction_bits - from.fraction_bits)))
      go (is_nan_lem e n m) = widened_by from to b (nan (negative from b) (fraction from b)) m
      go (is_infinite e z m) = absurd (N z)
      go (is_finite e m) = absurd (clash (exponent from b) (all_ones from) e E)
