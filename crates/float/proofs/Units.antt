-- Two floats compared by their units of 2 ^ -1074, as by the fractions m * up e / down e that the logic compares by.
use mathlib.Core.Path.{◌≡◌, refl, sym, ap, ◌∙◌, subst}
use mathlib.Core.Bool.{Bool, true, false}
use Prim.Native.Nat.{ℕ, ◌+◌, ◌-◌, ◌*◌, ◌^◌, ◌≤◌, ◌<◌}
use native.Mathlib.Nat.{mul_assoc, mul_comm, mul_right_comm, mul-pos, zero-mul, eq_of_mul-eq-mul_right, mul-le-mul_right, le_of_mul-le-mul_right}
use native.Mathlib.Omega.{arith}
use lib.Dec.{leb, eqb}
use lib.IntN.{ℤ}
use lib.Pow.{pow-add, pow_pos}
use lib.Ieee.{up, down}
use lib.Ieee.Fits.{down_pos}
use borrow.Author.Tests.{leb-true, leb-false, eqb-true, eqb-false}
use Rattle.binary.specs.Floats.{units_of}
use Rattle.binary.proofs.Units.{clash, scale}

-- two tests that say the same
same_leb : (a b c d : ℕ) (t u : Bool) → leb a b ≡ t → leb c d ≡ u → (a ≤ b → c ≤ d) → (c ≤ d → a ≤ b) →
    leb a b ≡ leb c d
same_leb a b c d true true p q f g = p ∙ sym q
same_leb a b c d false false p q f g = p ∙ sym q
same_leb a b c d true false p q f g = absurd (clash c d (f (leb-true a b p)) (leb-false c d q))
same_leb a b c d false true p q f g = absurd (clash a b (g (leb-true c d q)) (leb-false a b p))

same_eqb : (a b c d : ℕ) (t u : Bool) → eqb a b ≡ t → eqb c d ≡ u → (a ≡ b → c ≡ d) → (c ≡ d → a ≡ b) →
    eqb a b ≡ eqb c d
same_eqb a b c d true true p q f g = p ∙ sym q
same_eqb a b c d false false p q f g = p ∙ sym q
same_eqb a b c d true false p q f g = absurd (eqb-false c d q (f (eqb-true a b p)))
same_eqb a b c d false true p q f g = absurd (eqb-false a b p (g (eqb-true c d q)))

-- m * 2 ^ e is at most 2 ^ -k, as the logic compares, and in units
pub cross : (m : ℕ) (e : ℤ) (k : ℕ) → k ≤ 1074 → down e ≤ 2 ^ 1074 →
    leb (m * up e * 2 ^ k) (down e) ≡ leb (units_of m e) (2 ^ (1074 - k))
cross m e k h d =
    let P : ℕ = 2 ^ (1074 - k) in
    let full : 2 ^ k * P ≡ 2 ^ 1074 = sym (pow-add 2 k (1074 - k)) ∙ ap (λ (x : ℕ). 2 ^ x) (add_back k h) in
    let left : m * up e * 2 ^ k * P ≡ units_of m e * down e = mul_assoc (m * up e) (2 ^ k) P
    ∙ ap (λ (x : ℕ). m * up e * x) full ∙ sym (scale m e d) in
    same_leb (m * up e * 2 ^ k) (down e) (units_of m e) P (leb (m * up e * 2 ^ k) (down e)) (leb (units_of m e) P) refl
    refl
    (λ q. le_of_mul-le-mul_right (subst (λ (x : ℕ). x ≤ P * down e) left
    (subst (λ (x : ℕ). m * up e * 2 ^ k * P ≤ x) (mul_comm (down e) P) (mul-le-mul_right P q))) (down_pos e))
    (λ q. le_of_mul-le-mul_right (subst (λ (x : ℕ). m * up e * 2 ^ k * P ≤ x) (mul_comm P (down e))
    (subst (λ (x : ℕ). x ≤ P * down e) (sym left) (mul-le-mul_right (down e) q))) (pow_pos (1074 - k)))
  where
    add_back : (k : ℕ) → k ≤ 1074 → k + (1074 - k) ≡ 1074
    add_back k h = omega arith

-- two products by one factor are equal exactly if the others are
tied : (a b u v p q : ℕ) → 0 < p → 0 < q → a * p ≡ u * q → b * p ≡ v * q → eqb a b ≡ eqb u v
tied a b u v p q P Q l r =
    same_eqb a b u v (eqb a b) (eqb u v) refl refl
    (λ e. eq_of_mul-eq-mul_right q Q u v (sym l ∙ ap (λ (x : ℕ). x * p) e ∙ r))
    (λ e. eq_of_mul-eq-mul_right p P a b (l ∙ ap (λ (x : ℕ). x * q) e ∙ sym r))

module _ (m : ℕ) (e : ℤ) (d : ℤ) (E : down e ≤ 2 ^ 1074) where
  over : m * up e * down d * 2 ^ 1074 ≡ units_of m e * (down e * down d)
  over =
      mul_right_comm (m * up e) (down d) (2 ^ 1074)
      ∙ ap (λ (x : ℕ). x * down d) (sym (scale m e E))
      ∙ mul_assoc (units_of m e) (down e) (down d)

  pub no_units : eqb (m * up e * down d) 0 ≡ eqb (units_of m e) 0
  no_units =
      tied (m * up e * down d) 0 (units_of m e) 0 (2 ^ 1074) (down e * down d) (pow_pos 1074)
      (mul-pos (down_pos e) (down_pos d)) over
      (zero-mul (2 ^ 1074) ∙ sym (zero-mul (down e * down d)))

  pub same_units : (n : ℕ) → down d ≤ 2 ^ 1074 →
      eqb (m * up e * down d) (n * up d * down e) ≡ eqb (units_of m e) (units_of n d)
  same_units n D =
      tied (m * up e * down d) (n * up d * down e) (units_of m e) (units_of n d) (2 ^ 1074) (down e * down d)
      (pow_pos 1074) (mul-pos (down_pos e) (down_pos d)) over
      (mul_right_comm (n * up d) (down e) (2 ^ 1074)
      ∙ ap (λ (x : ℕ). x * down e) (sym (scale n d D))
      ∙ mul_assoc (units_of n d) (down d) (down e)
      ∙ ap (λ (x : ℕ). units_of n d * x) (mul_comm (down d) (down e)))
