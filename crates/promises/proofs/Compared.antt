-- The tests for zero and the equalities answer by document 01's words, for demand 2.
use mathlib.Core.Path.{◌≡◌, refl, ◌∙◌, sym, ap}
use mathlib.Core.Logic.{◌⊎◌, inl, inr}
use mathlib.Core.Bool.{Bool, true, false, ◌&&◌, ◌||◌, beq, false≢true}
use Prim.Native.Nat.{ℕ, suc, ◌-◌, ◌^◌}
use native.Mathlib.Omega.{arith}
use lib.Dec.{eqb}
use lib.IntN.{ℤ, pos, negsuc, nat_abs}
use mir.Syntax.{Sign, signed, unsigned}
use mir.Val.{bytes}
use borrow.Author.Tests.{le-leb, lt-leb, eq-eqb, ne_eqb, eqb-true}
use Rattle.types.specs.Values.{value}
use Rattle.types.specs.declared.Integer.{Integer}
use Rattle.types.specs.declared.Float.{Float}
use Rattle.binary.specs.Formats.{Meaning, finite, infinite, nan, NotNan}
use Rattle.cast.specs.Variants.{sign, width, same_sign, same_value, equal_integers}
use Rattle.float.specs.Values.{float_means, smallness, at_most, is_zero, equal_numbers, equal_floats}
use Rattle.promises.specs.Casts.{IntegerZeroRows, FloatZeroRows, EqualIntegerRows, EqualFloatRows}

both : (a b : Bool) → (a && b) ≡ true → (a ≡ true) × (b ≡ true)
both true b h = (refl, h)
both false b h = absurd (false≢true h)

-- ---- zero

zero_magnitude : (z : ℤ) → (z ≡ pos 0 → ⊥) → eqb (nat_abs z) 0 ≡ false
zero_magnitude (pos n) h = ne_eqb n 0 (λ e. h (ap pos e))
zero_magnitude (negsuc n) h = ne_eqb (suc n) 0 (λ e. omega arith)

pub integer_zeros : (x : Integer) → IntegerZeroRows x
integer_zeros x = record {
  zero = λ e. ap (λ (z : ℤ). eqb (nat_abs z) 0) e;
  other = λ h. zero_magnitude (value x) h;
}

pub float_zeros : (x : Float) → FloatZeroRows x
unfolding is_zero
float_zeros x = record {
  small = λ s m e h. ap (at_most (smallness x)) e ∙ le-leb m (2 ^ (1074 - smallness x)) h;
  large = λ s m e h. ap (at_most (smallness x)) e ∙ lt-leb m (2 ^ (1074 - smallness x)) h;
  infinity = λ s e. ap (at_most (smallness x)) e;
  not_a_number = λ s t e. ap (at_most (smallness x)) e;
}

-- ---- equality

sign_same : (s t : Sign) → s ≡ t → same_sign s t ≡ true
sign_same s t e = ap (same_sign s) (sym e) ∙ itself s
  where
    itself : (s : Sign) → same_sign s s ≡ true
    itself signed = refl
    itself unsigned = refl

same_sign_lem : (s t : Sign) → same_sign s t ≡ true → s ≡ t
same_sign_lem signed signed h = refl
same_sign_lem signed unsigned h = absurd (false≢true h)
same_sign_lem unsigned signed h = absurd (false≢true h)
same_sign_lem unsigned unsigned h = refl

value_same : (y z : ℤ) → y ≡ z → same_value y z ≡ true
value_same y z e = ap (same_value y) (sym e) ∙ itself y
  where
    itself : (z : ℤ) → same_value z z ≡ true
    itself (pos n) = eq-eqb n n refl
    itself (negsuc n) = eq-eqb n n refl

same_value_lem : (y z : ℤ) → same_value y z ≡ true → y ≡ z
same_value_lem (pos m) (pos n) h = ap pos (eqb-true m n h)
same_value_lem (pos m) (negsuc n) h = absurd (false≢true h)
same_value_lem (negsuc m) (pos n) h = absurd (false≢true h)
same_value_lem (negsuc m) (negsuc n) h = ap negsuc (eqb-true m n h)

pub equal_integers_lem : (a b : Integer) → EqualIntegerRows a b
unfolding equal_integers
equal_integers_lem a b = record {
  same = λ s w v.
      rw (
        sign_same (sign a) (sign b) s,
        eq-eqb (bytes (width a)) (bytes (width b)) w,
        value_same (value a) (value b) v,
      ) refl;
  only = λ h.
      let p = both (same_sign (sign a) (sign b) && eqb (bytes (width a)) (bytes (width b)))
      (same_value (value a) (value b)) h in
      let q = both (same_sign (sign a) (sign b)) (eqb (bytes (width a)) (bytes (width b))) p.0 in (
        same_sign_lem (sign a) (sign b) q.0,
        eqb-true (bytes (width a)) (bytes (width b)) q.1,
        same_value_lem (value a) (value b) p.1,
      );
}

-- a number equals itself
itself_equal : (m : Meaning) → NotNan m → equal_numbers m m ≡ true
itself_equal (finite s m) h = rw (eq-eqb m m refl) (same s)
  where
    same : (s : Bool) → (beq s s || eqb m 0) ≡ true
    same true = refl
    same false = refl
itself_equal (infinite true) h = refl
itself_equal (infinite false) h = refl
itself_equal (nan s t) h = absurd h

zeros_equal : (s t : Bool) → equal_numbers (finite s 0) (finite t 0) ≡ true
zeros_equal true true = refl
zeros_equal true false = refl
zeros_equal false true = refl
zeros_equal false false = refl

-- what equal meanings are
abbrev Alike : Meaning → Meaning → Type 0
Alike a b = (NotNan a × (a ≡ b)) ⊎ ((s : Bool) × (t : Bool) × (a ≡ finite s 0) × (b ≡ finite t 0))

alike_finite : (s t : Bool) (m n : ℕ) → m ≡ n → (beq s t || eqb m 0) ≡ true → Alike (finite s m) (finite t n)
alike_finite true true m n e h = inl (tt, ap (finite true) e)
alike_finite false false m n e h = inl (tt, ap (finite false) e)
alike_finite true false m n e h =
    let z = eqb-true m 0 h in inr (true, false, ap (finite true) z, ap (finite false) (sym e ∙ z))
alike_finite false true m n e h =
    let z = eqb-true m 0 h in inr (false, true, ap (finite false) z, ap (finite true) (sym e ∙ z))

alike : (a b : Meaning) → equal_numbers a b ≡ true → Alike a b
alike (finite s m) (finite t n) h =
    let p = both (eqb m n) (beq s t || eqb m 0) h in alike_finite s t m n (eqb-true m n p.0) p.1
alike (finite s m) (infinite t) h = absurd (false≢true h)
alike (finite s m) (nan t n) h = absurd (false≢true h)
alike (infinite s) (finite t n) h = absurd (false≢true h)
alike (infinite true) (infinite true) h = inl (tt, refl)
alike (infinite false) (infinite false) h = inl (tt, refl)
alike (infinite true) (infinite false) h = absurd (false≢true h)
alike (infinite false) (infinite true) h = absurd (false≢true h)
alike (infinite s) (nan t n) h = absurd (false≢true h)
alike (nan s m) b h = absurd (false≢true h)

pub equal_floats_lem : (a b : Float) → EqualFloatRows a b
unfolding equal_floats
equal_floats_lem a b = record {
  same = λ n e. ap (equal_numbers (float_means a)) (sym e) ∙ itself_equal (float_means a) n;
  zeros = λ s t e f. ap (λ (m : Meaning). equal_numbers m (float_means b)) e ∙ ap (equal_numbers (finite s 0)) f
      ∙ zeros_equal s t;
  only = λ h. alike (float_means a) (float_means b) h;
}
