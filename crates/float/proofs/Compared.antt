-- What the logic's comparisons say of meanings: a float between two powers of two, and two floats that are equal.
use mathlib.Core.Path.{◌≡◌, refl, sym, ap, ◌∙◌, subst}
use mathlib.Core.Bool.{Bool, true, false, ◌&&◌, ◌||◌, beq, false≢true, true≢false}
use Prim.Native.Nat.{ℕ, suc, ◌+◌, ◌-◌, ◌*◌, ◌^◌, ◌≤◌, ◌<◌}
use native.Mathlib.Nat.{one-mul, le_of_lt, le_refl}
use native.Mathlib.Omega.{arith}
use lib.Dec.{leb, ltb, eqb}
use lib.IntN.{ℤ, negsuc}
use lib.Ieee
use lib.Ieee.{Float, nan, inf, fin, up, down}
use lib.Ieee.Fits.{down_pos}
use borrow.Author.Tests.{lt-ltb, le-leb, lt-leb, ltb-true, ltb-false, eqb-true, eqb-false}
use Rattle.binary.specs.Floats.{units_of, float_meaning}
use Rattle.float.specs.Values.{at_most, equal_numbers}
use Rattle.binary.proofs.Units.{Fine}
use Rattle.float.proofs.Units.{cross, same_units, no_units}

-- ---- below one power of two and above its opposite

strict : (a b : ℕ) → b ≤ a → (a ≡ b → ⊥) → b < a
strict a b h k = omega arith

strict' : (a b : ℕ) → b ≤ a → (b ≡ a → ⊥) → b < a
strict' a b h k = omega arith

at_most_lem : (a b : ℕ) (t u : Bool) → ltb a b ≡ t → eqb a b ≡ u → (ltb a b || (eqb a b && true)) ≡ leb a b
at_most_lem a b true u p q = simp (p, le-leb a b (le_of_lt (ltb-true a b p)))
at_most_lem a b false true p q = simp (p, q, le-leb a b (subst (λ (x : ℕ). a ≤ x) (eqb-true a b q) (le_refl a)))
at_most_lem a b false false p q = simp (p, q, lt-leb a b (strict a b (ltb-false a b p) (eqb-false a b q)))

-- the same, with the equality the other way round
at_most' : (a b : ℕ) (t u : Bool) → ltb a b ≡ t → eqb b a ≡ u → (ltb a b || (eqb b a && true)) ≡ leb a b
at_most' a b true u p q = simp (p, le-leb a b (le_of_lt (ltb-true a b p)))
at_most' a b false true p q = simp (p, q, le-leb a b (subst (λ (x : ℕ). a ≤ x) (sym (eqb-true b a q)) (le_refl a)))
at_most' a b false false p q = simp (p, q, lt-leb a b (strict' a b (ltb-false a b p) (eqb-false b a q)))

some : (a b : ℕ) → 0 < a → 0 < 1 * a + b
some a b h = omega arith

some' : (a b : ℕ) → 0 < a → 0 < b + 1 * a
some' a b h = omega arith

module _ (j : ℕ) (J : suc j ≤ 1074) where
  test_is : (m : ℕ) (e : ℤ) → down e ≤ 2 ^ 1074 →
      (ltb (m * up e * 2 ^ suc j) (1 * down e) || (eqb (m * up e * 2 ^ suc j) (1 * down e) && true))
      ≡ leb (units_of m e) (2 ^ (1074 - suc j))
  test_is m e d =
      at_most_lem (m * up e * 2 ^ suc j) (1 * down e) (ltb (m * up e * 2 ^ suc j) (1 * down e))
      (eqb (m * up e * 2 ^ suc j) (1 * down e)) refl refl
      ∙ ap (leb (m * up e * 2 ^ suc j)) (one-mul (down e))
      ∙ cross m e (suc j) J d

  test_is' : (m : ℕ) (e : ℤ) → down e ≤ 2 ^ 1074 →
      (ltb (m * up e * 2 ^ suc j) (1 * down e) || (eqb (1 * down e) (m * up e * 2 ^ suc j) && true))
      ≡ leb (units_of m e) (2 ^ (1074 - suc j))
  test_is' m e d =
      at_most' (m * up e * 2 ^ suc j) (1 * down e) (ltb (m * up e * 2 ^ suc j) (1 * down e))
      (eqb (1 * down e) (m * up e * 2 ^ suc j)) refl refl
      ∙ ap (leb (m * up e * 2 ^ suc j)) (one-mul (down e))
      ∙ cross m e (suc j) J d

  pub both : (x : Float) → Fine x → Ieee.le x (fin false 1 (negsuc j)) ≡ true →
      Ieee.le (fin true 1 (negsuc j)) x ≡ at_most (suc j) (float_meaning x)
  unfolding Ieee.le Ieee.lt Ieee.eq float_meaning
  both nan d h = refl
  both (inf true) d h = refl
  both (inf false) d h = absurd (false≢true h)
  both (fin true m e) d h = test_is' m e d
  both (fin false m e) d h =
      rw (lt-ltb 0 (1 * down e + m * up e * 2 ^ suc j) (some (down e) (m * up e * 2 ^ suc j) (down_pos e)))
      (sym h ∙ test_is m e d)

  pub neither : (x : Float) → Fine x → Ieee.le x (fin false 1 (negsuc j)) ≡ false →
      false ≡ at_most (suc j) (float_meaning x)
  unfolding Ieee.le Ieee.lt Ieee.eq float_meaning
  neither nan d h = refl
  neither (inf s) d h = refl
  neither (fin true m e) d h =
      absurd (true≢false (rw (lt-ltb 0 (m * up e * 2 ^ suc j + 1 * down e)
      (some' (down e) (m * up e * 2 ^ suc j) (down_pos e))) at h))
  neither (fin false m e) d h = sym h ∙ test_is m e d

-- ---- two floats

pub equal_is : (x y : Float) → Fine x → Fine y → Ieee.eq x y ≡ equal_numbers (float_meaning x) (float_meaning y)
unfolding Ieee.eq float_meaning
equal_is nan y d d' = refl
equal_is (inf s) nan d d' = refl
equal_is (inf s) (inf t) d d' = refl
equal_is (inf s) (fin t n f) d d' = refl
equal_is (fin s m e) nan d d' = refl
equal_is (fin s m e) (inf t) d d' = refl
equal_is (fin s m e) (fin t n f) d d' =
    ap (λ (b : Bool). b && (beq s t || eqb (m * up e * down f) 0)) (same_units m e f d n d')
    ∙ ap (λ (b : Bool). eqb (units_of m e) (units_of n f) && (beq s t || b)) (no_units m e f d)
