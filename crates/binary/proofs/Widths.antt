-- Two formats of which the one widens the other (`Widens`), the two pairs that do, and what a number's fields become
-- from the one to the other: `kept_normal`, `kept_subnormal`, `kept_zero`, and back, `comes_from`.
-- Rests on `Smallests`, which has the same in smallest values.
use mathlib.Core.Path.{◌≡◌, refl, sym, ap, ◌∙◌, subst}
use mathlib.Core.Logic.{◌⊎◌, inl, inr}
use Prim.Native.Nat.{ℕ, zero, suc, ◌+◌, ◌-◌, ◌*◌, ◌^◌, ◌≤◌, ◌<◌}
use native.Mathlib.Nat.{le_trans, mul_assoc, mul_comm, zero-mul, eq_of_mul-eq-mul_right, eq-zero-or-pos, suc-add}
use native.Mathlib.Omega.{arith}
use lib.Dec.{lit≤, lit<}
use lib.Pow.{pow-add, pow_pos, shl_lt}
use Rattle.binary.specs.Formats.{Layout, half, single, double, leading, all_ones, unit, smallests, magnitude}
use Rattle.binary.proofs.Smallests.{lift_normal, lift_subnormal, raised_lt, up_to, Origin, origin}

-- `lift` is what the exponent's field of a normal number grows by: the difference of the biases.
-- `more` are the fraction bits that the wider format has more.
pub record Widens (narrow wide : Layout) (lift more : ℕ) : Type 0 where
  pub fractions : wide.fraction_bits ≡ narrow.fraction_bits + more
  pub units : unit narrow ≡ unit wide + (lift + more)
  -- a subnormal number of the narrower format is normal in the wider one
  pub deep : narrow.fraction_bits ≤ lift
  -- a finite number of the narrower format is finite in the wider one
  pub high : all_ones narrow + lift ≤ all_ones wide
  pub some : 0 < all_ones narrow

abbrev pub half-single : Widens half single 112 13
half-single = record { fractions = refl; units = refl; deep = lit≤ tt; high = lit≤ tt; some = lit< tt }

abbrev pub single-double : Widens single double 896 29
single-double = record { fractions = refl; units = refl; deep = lit≤ tt; high = lit≤ tt; some = lit< tt }

under : (o o' u j : ℕ) → o + u ≤ o' → 0 < o → 1 ≤ j → j ≤ u → suc (u - j) < o'
under o o' u j h s a b = omega arith

module _ {narrow wide : Layout} {lift more : ℕ} (W : Widens narrow wide lift more) where
  scale : (n : ℕ) → n * 2 ^ unit narrow ≡ n * 2 ^ (lift + more) * 2 ^ unit wide
  scale n =
      ap (λ (x : ℕ). n * x)
      (ap (λ (x : ℕ). 2 ^ x) W.units ∙ pow-add 2 (unit wide) (lift + more)
      ∙ mul_comm (2 ^ unit wide) (2 ^ (lift + more)))
      ∙ sym (mul_assoc n (2 ^ (lift + more)) (2 ^ unit wide))

  by_smallests : (e t e' t' : ℕ) →
      smallests narrow.fraction_bits e t * 2 ^ (lift + more) ≡ smallests wide.fraction_bits e' t' →
      magnitude narrow e t ≡ magnitude wide e' t'
  by_smallests e t e' t' h = scale (smallests narrow.fraction_bits e t) ∙ ap (λ (x : ℕ). x * 2 ^ unit wide) h

  in_smallests : (e t e' t' : ℕ) → magnitude narrow e t ≡ magnitude wide e' t' →
      smallests narrow.fraction_bits e t * 2 ^ (lift + more) ≡ smallests wide.fraction_bits e' t'
  in_smallests e t e' t' h =
      eq_of_mul-eq-mul_right (2 ^ unit wide) (pow_pos (unit wide))
      (smallests narrow.fraction_bits e t * 2 ^ (lift + more)) (smallests wide.fraction_bits e' t')
      (sym (scale (smallests narrow.fraction_bits e t)) ∙ h)

  normal_suc : (x t : ℕ) → magnitude narrow (suc x) t ≡ magnitude wide (suc (x + lift)) (t * 2 ^ more)
  normal_suc x t =
      by_smallests (suc x) t (suc (x + lift)) (t * 2 ^ more)
      (lift_normal narrow.fraction_bits more wide.fraction_bits lift x t W.fractions)

  pub kept_normal : (e t : ℕ) → 0 < e → magnitude narrow e t ≡ magnitude wide (e + lift) (t * 2 ^ more)
  kept_normal zero t h = absurd (none h)
    where
      none : 0 < 0 → ⊥
      none h = omega arith
  kept_normal (suc x) t h = normal_suc x t ∙ ap (λ (y : ℕ). magnitude wide y (t * 2 ^ more)) (sym (suc-add x lift))

  -- moved up by j, until the leading digit is where a normal number has it
  pub kept_subnormal : (j t : ℕ) → j ≤ lift → leading narrow ≤ t * 2 ^ j →
      magnitude narrow 0 t ≡ magnitude wide (suc (lift - j)) (t * 2 ^ (j + more) - leading wide)
  kept_subnormal j t J h =
      by_smallests 0 t (suc (lift - j)) (t * 2 ^ (j + more) - leading wide)
      (lift_subnormal narrow.fraction_bits more wide.fraction_bits lift j t W.fractions J h)

  low_is : (p t : ℕ) → smallests p 0 t ≡ t
  unfolding smallests
  low_is p t = refl

  pub kept_zero : magnitude narrow 0 0 ≡ magnitude wide 0 0
  kept_zero =
      by_smallests 0 0 0 0
      (ap (λ (x : ℕ). x * 2 ^ (lift + more)) (low_is narrow.fraction_bits 0) ∙ zero-mul (2 ^ (lift + more))
      ∙ sym (low_is wide.fraction_bits 0))

  pub moved_lt : (t : ℕ) → t < leading narrow → t * 2 ^ more < leading wide
  moved_lt t h = subst (λ (x : ℕ). t * 2 ^ more < 2 ^ x) (sym W.fractions) (shl_lt narrow.fraction_bits more h)

  -- every finite number of the narrower format is one of the wider
  pub lifted : (e t : ℕ) → e < all_ones narrow → t < leading narrow
      → (e' : ℕ) × (t' : ℕ) × (e' < all_ones wide) × (t' < leading wide) × (magnitude narrow e t ≡ magnitude wide e' t')
  lifted (suc x) t E T =
      (suc x + lift, t * 2 ^ more, omega (arith, W.high), moved_lt t T, kept_normal (suc x) t (omega arith))
  lifted zero t E T = go (eq-zero-or-pos t)
    where
      go : (t ≡ 0) ⊎ (0 < t) →
          (e' : ℕ) × (t' : ℕ) × (e' < all_ones wide) × (t' < leading wide) ×
          (magnitude narrow 0 t ≡ magnitude wide e' t')
      go (inl z) =
          (0, 0, omega (arith, W.high, W.some), pow_pos wide.fraction_bits, ap (magnitude narrow 0) z ∙ kept_zero)
      go (inr n) =
          let m = up_to narrow.fraction_bits t n T in
          let j = m.0 in (
            suc (lift - j),
            t * 2 ^ (j + more) - leading wide,
            under (all_ones narrow) (all_ones wide) lift j W.high W.some m.1 (le_trans m.2 W.deep),
            raised_lt narrow.fraction_bits more wide.fraction_bits j t W.fractions m.3 m.4,
            kept_subnormal j t (omega (arith, W.deep)) m.3,
          )

  pub comes_from : (e t e' t' : ℕ) → t < leading narrow → t' < leading wide →
      magnitude narrow e t ≡ magnitude wide e' t'
      → Origin narrow.fraction_bits more wide.fraction_bits lift e t e' t'
  comes_from e t e' t' T T' h =
      origin narrow.fraction_bits more wide.fraction_bits lift e t e' t' W.fractions W.deep T T'
      (in_smallests e t e' t' h)
