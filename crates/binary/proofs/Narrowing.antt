-- What `narrowed` answers, over any two layouts: by the fields of a pattern that has the value (`gives`), or because
-- none has it (`loses`). And what it means: `narrows`, with `one_answer`, that no other answer does.
use Rattle.std.specs.Prelude.{Option, Some, None}
use mathlib.Core.Path.{◌≡◌, refl, sym, ap, ◌∙◌, subst}
use mathlib.Core.Bool.{Bool, true, false, cond, ◌&&◌, false≢true}
use Prim.Native.Nat.{ℕ, ◌+◌, ◌*◌, ◌/◌, ◌%◌, ◌<◌}
use native.Mathlib.Nat.{mod-lt, div-add-mod', div-lt_iff_lt-mul, le_of_eq, le_of_lt, add-zero}
use native.Mathlib.Omega.{arith}
use lib.Dec.{ltb, eqb}
use lib.Pow.{pow_pos}
use borrow.Author.Tests.{ltb-true, eqb-true}
use Rattle.binary.specs.Formats.{Layout, leading, sign_weight, all_ones, negative, exponent, fraction, magnitude, Meaning, finite, infinite, nan, meaning, NotNan}
use Rattle.binary.specs.Conversions.{with_sign, infinity, candidate, has, narrowed_meaning, narrowed, Narrows}
use Rattle.binary.proofs.Patterns.{rest_lt, signed_lt, fraction_lt, meaning_signed, meant-finite, meant-infinite, Reading, is_finite, is_infinite, is_nan_lem, reading, one_pattern, candidate_is, has_it}

pub narrowed_by : (from to : Layout) (b : ℕ) (m : Meaning) → meaning from b ≡ m →
    narrowed from to b ≡ narrowed_meaning to m
unfolding narrowed
narrowed_by from to b m e = ap (narrowed_meaning to) e

clash : (e o : ℕ) → e < o → e ≡ o → ⊥
clash e o h q = omega arith

pub finite-meaning : (f : Layout) (b : ℕ) → exponent f b < all_ones f →
    meaning f b ≡ finite (negative f b) (magnitude f (exponent f b) (fraction f b))
finite-meaning f b h = go (reading f b)
  where
    go : Reading f b → meaning f b ≡ finite (negative f b) (magnitude f (exponent f b) (fraction f b))
    go (is_finite e m) = m
    go (is_infinite e z m) = absurd (clash (exponent f b) (all_ones f) h e)
    go (is_nan_lem e n m) = absurd (clash (exponent f b) (all_ones f) h e)

-- ---- by a test that is true or false

both_true : (a b : Bool) → (a && b) ≡ true → (a ≡ true) × (b ≡ true)
both_true true true h = (refl, refl)
both_true true false h = (refl, h)
both_true false b h = (h, absurd (false≢true cc))

-- the fields of the candidate, where the format has the magnitude
pub found : (f : Layout) (m : ℕ) → has f m ≡ true
    → (e : ℕ) × (t : ℕ) × (e < all_ones f) × (t < leading f) × (candidate f m ≡ e * leading f + t) ×
    (magnitude f e t ≡ m)
found f m h =
    let k = both_true (ltb (candidate f m) (infinity f))
    (eqb (magnitude f (candidate f m / leading f) (candidate f m % leading f)) m) h in (
      candidate f m / leading f,
      candidate f m % leading f,
      (div-lt_iff_lt-mul (pow_pos f.fraction_bits)).1 (ltb-true (candidate f m) (infinity f) k.0),
      mod-lt (candidate f m) (pow_pos f.fraction_bits),
      sym (div-add-mod' (candidate f m) (leading f)),
      eqb-true (magnitude f (candidate f m / leading f) (candidate f m % leading f)) m k.1,
    )

-- ---- what `narrowed` answers

module _ (from to : Layout) (b : ℕ) where
  pub gives : (e t : ℕ) → exponent from b < all_ones from → e < all_ones to → t < leading to
      → magnitude to e t ≡ magnitude from (exponent from b) (fraction from b)
      → narrowed from to b ≡ Some (with_sign to (negative from b) (e * leading to + t))
  gives e t F E T same =
      narrowed_by from to b (finite (negative from b) (magnitude to e t))
      (finite-meaning from b F ∙ ap (finite (negative from b)) (sym same))
      ∙ ap (λ (x : Bool). cond x (Some (with_sign to (negative from b) (candidate to (magnitude to e t)))) None)
      (has_it to e t E T)
      ∙ ap (λ (x : ℕ). Some (with_sign to (negative from b) x)) (candidate_is to e t T)

  pub loses : exponent from b < all_ones from
      → ((e t : ℕ) → e < all_ones to → t < leading to →
      magnitude to e t ≡ magnitude from (exponent from b) (fraction from b) → ⊥)
      → narrowed from to b ≡ None
  loses F none = narrowed_by from to b (finite (negative from b) m) (finite-meaning from b F) ∙ go (has to m) refl
    where
      m : ℕ
      m = magnitude from (exponent from b) (fraction from b)

      go : (x : Bool) → has to m ≡ x →
          cond (has to m) (Some (with_sign to (negative from b) (candidate to m))) None ≡ None
      go true h = let k = found to m h in absurd (none k.0 k.1 k.2 k.3 k.5)
      go false h = ap (λ (x : Bool). cond x (Some (with_sign to (negative from b) (candidate to m))) None) h

  pub gives_infinity : exponent from b ≡ all_ones from → fraction from b ≡ 0 →
      narrowed from to b ≡ Some (with_sign to (negative from b) (infinity to))
  gives_infinity E Z = go (reading from b)
    where
      go : Reading from b → narrowed from to b ≡ Some (with_sign to (negative from b) (infinity to))
      go (is_infinite e z m) = narrowed_by from to b (infinite (negative from b)) m
      go (is_finite e m) = absurd (clash (exponent from b) (all_ones from) e E)
      go (is_nan_lem e n m) = absurd (some (fraction from b) n Z)
        where
          some : (t : ℕ) → 0 < t → t ≡ 0 → ⊥
          some t h q = omega arith

  pub loses_nan : exponent from b ≡ all_ones from → (fraction from b ≡ 0 → ⊥) → narrowed from to b ≡ None
  loses_nan E N = go (reading from b)
    where
      go : Reading from b → narrowed from to b ≡ None
      go (is_nan_lem e n m) = narrowed_by from to b (nan (negative from b) (fraction from b)) m
      go (is_infinite e z m) = absurd (N z)
      go (is_finite e m) = absurd (clash (exponent from b) (all_ones from) e E)

-- ---- what it means

finite_here : (f : Layout) (s : Bool) (e t : ℕ) → e < all_ones f → t < leading f →
    meaning f (with_sign f s (e * leading f + t)) ≡ finite s (magnitude f e t)
finite_here f s e t E T = meaning_signed f s e t (le_of_lt E) T ∙ meant-finite f s e t E

pub infinite_here : (f : Layout) (s : Bool) → meaning f (with_sign f s (infinity f)) ≡ infinite s
infinite_here f s =
    ap (λ (x : ℕ). meaning f (with_sign f s x)) (sym (add-zero (infinity f)))
    ∙ meaning_signed f s (all_ones f) 0 (le_of_eq refl) (pow_pos f.fraction_bits)
    ∙ meant-infinite f s (all_ones f) 0 refl refl

pub infinity_lt : (f : Layout) (s : Bool) → with_sign f s (infinity f) < 2 * sign_weight f
infinity_lt f s =
    signed_lt f s (infinity f) (subst (λ (x : ℕ). x < sign_weight f) (add-zero (infinity f))
    (rest_lt f (all_ones f) 0 (le_of_eq refl) (pow_pos f.fraction_bits)))

as_number : (x y : Meaning) → x ≡ y → NotNan y → NotNan x
as_number x y e n = subst NotNan (sym e) n

-- a value of the format is found, with its own pattern
value_has : (f : Layout) (q : ℕ) (s : Bool) (m : ℕ) → meaning f q ≡ finite s m → has f m ≡ true
value_has f q s m h = go (reading f q)
  where
    bad : (x : Meaning) (t : Bool) → x ≡ infinite t → x ≡ finite s m → ⊥
    bad x t a c = false≢true cc

    bad' : (x : Meaning) (t : Bool) (k : ℕ) → x ≡ nan t k → x ≡ finite s m → ⊥
    bad' x t k a c = false≢true cc

    same : (x : Meaning) (t : Bool) (k : ℕ) → x ≡ finite t k → x ≡ finite s m → k ≡ m
    same x t k a c = cc

    go : Reading f q → has f m ≡ true
    go (is_finite e k) =
        ap (has f) (sym (same (meaning f q) (negative f q) (magnitude f (exponent f q) (fraction f q)) k h))
        ∙ has_it f (exponent f q) (fraction f q) e (fraction_lt f q)
    go (is_infinite e z k) = absurd (bad (meaning f q) (negative f q) k h)
    go (is_nan_lem e n k) = absurd (bad' (meaning f q) (negative f q) (fraction f q) k h)

narrows_meaning : (from to : Layout) (b : ℕ) (m : Meaning) → meaning from b ≡ m →
    Narrows from to b (narrowed_meaning to m)
narrows_meaning from to b (finite s m) h = go (has to m) refl
  where
    lacks : (x : Bool) → x ≡ false → x ≡ true → ⊥
    lacks x p q = false≢true cc

    go : (x : Bool) → has to m ≡ x → Narrows from to b (cond (has to m) (Some (with_sign to s (candidate to m))) None)
    go true e =
        let k = found to m e in
        rw (e, k.4) (
          signed_lt to s (k.0 * leading to + k.1) (rest_lt to k.0 k.1 (le_of_lt k.2) k.3),
          as_number (meaning from b) (finite s m) h tt,
          finite_here to s k.0 k.1 k.2 k.3 ∙ ap (finite s) k.5 ∙ sym h,
        )
    go false e = rw e (λ q v. lacks (has to m) e (value_has to q s m (v.2 ∙ h)))
narrows_meaning from to b (infinite s) h =
    (infinity_lt to s, as_number (meaning from b) (infinite s) h tt, infinite_here to s ∙ sym h)
narrows_meaning from to b (nan s t) h = λ q v. subst NotNan h v.1

-- narrowing answers exactly if a pattern of the narrower format has the sign and the magnitude, and gives that one
pub narrows : (from to : Layout) (b : ℕ) → Narrows from to b (narrowed from to b)
narrows from to b =
    subst (λ (n : Option ℕ). Narrows from to b n) (sym (narrowed_by from to b (meaning from b) refl))
    (narrows_meaning from to b (meaning from b) refl)

pub one_answer : (from to : Layout) (b : ℕ) (x y : Option ℕ) → Narrows from to b x → Narrows from to b y → x ≡ y
one_answer from to b (Some q) (Some r) h k = ap Some (one_pattern to q r h.0 k.0 (h.2 ∙ sym k.2))
one_answer from to b (Some q) None h k = absurd (k q h)
one_answer from to b None (Some r) h k = absurd (h r k)
one_answer from to b None None h k = refl
