-- A pattern is its sign, its exponent's field and its fraction, and what it means goes by those three. Over every
-- layout.
-- So a meaning has one pattern (`one_pattern`), and a magnitude that a format has is found by `candidate`
-- (`candidate_is`, `has_it`).
use mathlib.Core.Path.{◌≡◌, refl, sym, ap, ◌∙◌, subst}
use mathlib.Core.Logic.{◌⊎◌, inl, inr}
use mathlib.Core.Bool.{Bool, true, false, cond, false≢true}
use Prim.Native.Nat.{ℕ, ◌+◌, ◌-◌, ◌*◌, ◌/◌, ◌%◌, ◌^◌, ◌≤◌, ◌<◌}
use native.Mathlib.Nat.{mod-lt, mod-eq_of_lt, mod-eq-sub-mod, add-mod_left, mul-add-mod_self_right, add-sub_of_le}
use native.Mathlib.Nat.{div-add-mod', mod-mod_of_dvd, dvd-mul_left, div-lt_iff_lt-mul, mul-div_cancel}
use native.Mathlib.Nat.{eq_of_mul-eq-mul_right, eq-zero-or-pos, zero-add, eq-or-lt_of_le}
use native.Mathlib.Omega.{arith}
use lib.Arith.{digits_lt, digits_div, digits_mod}
use lib.Dec.{leb, eqb}
use lib.Pow.{pow-add, pow_pos}
use borrow.Author.Tests.{lt-ltb, le-leb, lt-leb, eq-eqb, ne_eqb, leb-true, leb-false}
use Rattle.binary.specs.Formats.{Layout, leading, sign_weight, all_ones, unit, negative, exponent, fraction}
use Rattle.binary.specs.Formats.{smallests, magnitude, Meaning, finite, infinite, nan, meaning}
use Rattle.binary.specs.Conversions.{with_sign, infinity, packed, candidate, has}
use Rattle.binary.proofs.Smallests.{packed-smallests, same_fields}

-- ---- the fields of a pattern that is made of three

weight_is : (f : Layout) → sign_weight f ≡ 2 ^ f.exponent_bits * leading f
weight_is f = pow-add 2 f.exponent_bits f.fraction_bits

under_weight : (f : Layout) (e : ℕ) → e ≤ all_ones f → e < 2 ^ f.exponent_bits
under_weight f e h = omega (arith, pow_pos f.exponent_bits)

pub rest_lt : (f : Layout) (e t : ℕ) → e ≤ all_ones f → t < leading f → e * leading f + t < sign_weight f
rest_lt f e t E T = subst (λ (x : ℕ). e * leading f + t < x) (sym (weight_is f)) (digits_lt (under_weight f e E) T)

pub signed_lt : (f : Layout) (s : Bool) (r : ℕ) → r < sign_weight f → with_sign f s r < 2 * sign_weight f
signed_lt f true r h = omega arith
signed_lt f false r h = omega arith

pub negative_signed : (f : Layout) (s : Bool) (r : ℕ) → r < sign_weight f → negative f (with_sign f s r) ≡ s
negative_signed f true r h = le-leb (sign_weight f) (sign_weight f + r) (omega arith)
negative_signed f false r h = lt-leb (sign_weight f) (0 + r) (omega arith)

rest_signed : (f : Layout) (s : Bool) (r : ℕ) → r < sign_weight f → with_sign f s r % sign_weight f ≡ r
rest_signed f true r h = add-mod_left (sign_weight f) r ∙ mod-eq_of_lt h
rest_signed f false r h = ap (λ (x : ℕ). x % sign_weight f) (zero-add r) ∙ mod-eq_of_lt h

pub exponent_signed : (f : Layout) (s : Bool) (e t : ℕ) → e ≤ all_ones f → t < leading f →
    exponent f (with_sign f s (e * leading f + t)) ≡ e
exponent_signed f s e t E T =
    ap (λ (x : ℕ). x / leading f) (rest_signed f s (e * leading f + t) (rest_lt f e t E T)) ∙ digits_div e T

pub fraction_signed : (f : Layout) (s : Bool) (e t : ℕ) → t < leading f →
    fraction f (with_sign f s (e * leading f + t)) ≡ t
fraction_signed f true e t T =
    ap (λ (x : ℕ). (x + (e * leading f + t)) % leading f) (weight_is f)
    ∙ mul-add-mod_self_right (2 ^ f.exponent_bits) (leading f) (e * leading f + t)
    ∙ digits_mod e T
fraction_signed f false e t T = ap (λ (x : ℕ). x % leading f) (zero-add (e * leading f + t)) ∙ digits_mod e T

-- ---- every pattern is made so

pub exponent_le : (f : Layout) (b : ℕ) → exponent f b ≤ all_ones f
exponent_le f b =
    let l : b % sign_weight f < 2 ^ f.exponent_bits * leading f =
    subst (λ (x : ℕ). b % sign_weight f < x) (weight_is f) (mod-lt b (pow_pos (f.exponent_bits + f.fraction_bits))) in
    let k : exponent f b < 2 ^ f.exponent_bits = (div-lt_iff_lt-mul (pow_pos f.fraction_bits)).1 l in
    omega arith

pub fraction_lt : (f : Layout) (b : ℕ) → fraction f b < leading f
fraction_lt f b = mod-lt b (pow_pos f.fraction_bits)

pub two_fields : (f : Layout) (b : ℕ) → exponent f b * leading f + fraction f b ≡ b % sign_weight f
two_fields f b =
    ap (λ (y : ℕ). exponent f b * leading f + y)
    (sym
    (ap (λ (x : ℕ). b % x % leading f) (weight_is f)
    ∙ mod-mod_of_dvd (leading f) b (dvd-mul_left (leading f) (2 ^ f.exponent_bits))))
    ∙ div-add-mod' (b % sign_weight f) (leading f)

sign_and_rest : (c n : ℕ) → n < 2 * c → cond (leb c n) c 0 + n % c ≡ n
sign_and_rest c n h = go (leb c n) refl
  where
    less : c ≤ n → n - c < c
    less l = omega arith

    go : (t : Bool) → leb c n ≡ t → cond (leb c n) c 0 + n % c ≡ n
    go true e =
        let l : c ≤ n = leb-true c n e in
        ap (λ (b : Bool). cond b c 0 + n % c) e ∙ ap (λ (r : ℕ). c + r) (mod-eq-sub-mod l ∙ mod-eq_of_lt (less l))
        ∙ add-sub_of_le l
    go false e = ap (λ (b : Bool). cond b c 0 + n % c) e ∙ zero-add (n % c) ∙ mod-eq_of_lt (leb-false c n e)

pub pattern_is : (f : Layout) (b : ℕ) → b < 2 * sign_weight f →
    with_sign f (negative f b) (exponent f b * leading f + fraction f b) ≡ b
pattern_is f b h = ap (λ (y : ℕ). with_sign f (negative f b) y) (two_fields f b) ∙ sign_and_rest (sign_weight f) b h

pub same_pattern : (f : Layout) (b c : ℕ) → b < 2 * sign_weight f → c < 2 * sign_weight f → negative f b ≡ negative f c →
    exponent f b ≡ exponent f c → fraction f b ≡ fraction f c → b ≡ c
same_pattern f b c B C n e t =
    sym (pattern_is f b B) ∙ ap (λ (s : Bool). with_sign f s (exponent f b * leading f + fraction f b)) n
    ∙ ap (λ (x : ℕ). with_sign f (negative f c) (x * leading f + fraction f b)) e
    ∙ ap (λ (x : ℕ). with_sign f (negative f c) (exponent f c * leading f + x)) t ∙ pattern_is f c C

-- ---- what the fields mean

abbrev pub meant : Layout → Bool → ℕ → ℕ → Meaning
meant f s e t = cond (eqb e (all_ones f)) (cond (eqb t 0) (infinite s) (nan s t)) (finite s (magnitude f e t))

pub meaning_is : (f : Layout) (b : ℕ) → meaning f b ≡ meant f (negative f b) (exponent f b) (fraction f b)
unfolding meaning
meaning_is f b = refl

pub meaning_signed : (f : Layout) (s : Bool) (e t : ℕ) → e ≤ all_ones f → t < leading f →
    meaning f (with_sign f s (e * leading f + t)) ≡ meant f s e t
meaning_signed f s e t E T =
    meaning_is f (with_sign f s (e * leading f + t))
    ∙ rw (
      negative_signed f s (e * leading f + t)
          (rest_lt f e t E T),
      exponent_signed f s e t E T,
      fraction_signed f s e t T,
    )

not_ones : (e o : ℕ) → e < o → e ≡ o → ⊥
not_ones e o h q = omega arith

not_zero : (t : ℕ) → 0 < t → t ≡ 0 → ⊥
not_zero t h q = omega arith

pub meant-finite : (f : Layout) (s : Bool) (e t : ℕ) → e < all_ones f → meant f s e t ≡ finite s (magnitude f e t)
meant-finite f s e t h = rw (ne_eqb e (all_ones f) (not_ones e (all_ones f) h))

pub meant-infinite : (f : Layout) (s : Bool) (e t : ℕ) → e ≡ all_ones f → t ≡ 0 → meant f s e t ≡ infinite s
meant-infinite f s e t h z = rw (eq-eqb e (all_ones f) h, eq-eqb t 0 z)

pub meant-nan : (f : Layout) (s : Bool) (e t : ℕ) → e ≡ all_ones f → 0 < t → meant f s e t ≡ nan s t
meant-nan f s e t h n = rw (eq-eqb e (all_ones f) h, ne_eqb t 0 (not_zero t n))

-- the three cases of a pattern
pub data Reading (f : Layout) (b : ℕ) : Type 0 where
  is_finite : exponent f b < all_ones f →
      meaning f b ≡ finite (negative f b) (magnitude f (exponent f b) (fraction f b)) → Reading f b
  is_infinite : exponent f b ≡ all_ones f → fraction f b ≡ 0 → meaning f b ≡ infinite (negative f b) → Reading f b
  is_nan_lem : exponent f b ≡ all_ones f → 0 < fraction f b → meaning f b ≡ nan (negative f b) (fraction f b) → Reading f b

pub reading : (f : Layout) (b : ℕ) → Reading f b
reading f b = go (eq-or-lt_of_le (exponent_le f b)) (eq-zero-or-pos (fraction f b))
  where
    go : (exponent f b ≡ all_ones f) ⊎ (exponent f b < all_ones f) → (fraction f b ≡ 0) ⊎ (0 < fraction f b) → Reading f b
    go (inr l) u = is_finite l (meaning_is f b ∙ meant-finite f (negative f b) (exponent f b) (fraction f b) l)
    go (inl e) (inl z) =
        is_infinite e z (meaning_is f b ∙ meant-infinite f (negative f b) (exponent f b) (fraction f b) e z)
    go (inl e) (inr n) = is_nan_lem e n (meaning_is f b ∙ meant-nan f (negative f b) (exponent f b) (fraction f b) e n)

-- ---- a meaning has one pattern

cancel : (u a b : ℕ) → a * 2 ^ u ≡ b * 2 ^ u → a ≡ b
cancel u a b h = eq_of_mul-eq-mul_right (2 ^ u) (pow_pos u) a b h

no : (x y : Meaning) (s t : Bool) (m : ℕ) → x ≡ finite s m → y ≡ infinite t → x ≡ y → ⊥
no x y s t m p q r = false≢true cc

no' : (x y : Meaning) (s t : Bool) (m k : ℕ) → x ≡ finite s m → y ≡ nan t k → x ≡ y → ⊥
no' x y s t m k p q r = false≢true cc

no'' : (x y : Meaning) (s t : Bool) (k : ℕ) → x ≡ infinite s → y ≡ nan t k → x ≡ y → ⊥
no'' x y s t k p q r = false≢true cc

both_finite : (x y : Meaning) (s t : Bool) (m k : ℕ) → x ≡ finite s m → y ≡ finite t k → x ≡ y → (s ≡ t) × (m ≡ k)
both_finite x y s t m k p q r = let e : finite s m ≡ finite t k = cc in (cc, cc)

both_infinite : (x y : Meaning) (s t : Bool) → x ≡ infinite s → y ≡ infinite t → x ≡ y → s ≡ t
both_infinite x y s t p q r = let e : infinite s ≡ infinite t = cc in cc

both_nan : (x y : Meaning) (s t : Bool) (m k : ℕ) → x ≡ nan s m → y ≡ nan t k → x ≡ y → (s ≡ t) × (m ≡ k)
both_nan x y s t m k p q r = let e : nan s m ≡ nan t k = cc in (cc, cc)

pub one_pattern : (f : Layout) (b c : ℕ) → b < 2 * sign_weight f → c < 2 * sign_weight f → meaning f b ≡ meaning f c →
    b ≡ c
one_pattern f b c B C h = go (reading f b) (reading f c)
  where
    go : Reading f b → Reading f c → b ≡ c
    go (is_finite e m) (is_finite e' m') =
        let k =
        both_finite (meaning f b) (meaning f c) (negative f b) (negative f c)
        (magnitude f (exponent f b) (fraction f b)) (magnitude f (exponent f c) (fraction f c)) m m' h in
        let g =
        same_fields f.fraction_bits (exponent f b) (fraction f b) (exponent f c) (fraction f c) (fraction_lt f b)
        (fraction_lt f c)
        (cancel (unit f) (smallests f.fraction_bits (exponent f b) (fraction f b))
        (smallests f.fraction_bits (exponent f c) (fraction f c)) k.1) in
        same_pattern f b c B C k.0 g.0 g.1
    go (is_infinite e z m) (is_infinite e' z' m') =
        same_pattern f b c B C (both_infinite (meaning f b) (meaning f c) (negative f b) (negative f c) m m' h)
        (e ∙ sym e') (z ∙ sym z')
    go (is_nan_lem e n m) (is_nan_lem e' n' m') =
        let k =
        both_nan (meaning f b) (meaning f c) (negative f b) (negative f c) (fraction f b) (fraction f c) m m' h in
        same_pattern f b c B C k.0 (e ∙ sym e') k.1
    go (is_finite e m) (is_infinite e' z' m') =
        absurd
        (no (meaning f b) (meaning f c) (negative f b) (negative f c)
        (magnitude f (exponent f b) (fraction f b)) m m' h)
    go (is_infinite e z m) (is_finite e' m') =
        absurd
        (no (meaning f c) (meaning f b) (negative f c) (negative f b) (magnitude f (exponent f c) (fraction f c)) m' m
        (sym h))
    go (is_finite e m) (is_nan_lem e' n' m') =
        absurd
        (no' (meaning f b) (meaning f c) (negative f b) (negative f c) (magnitude f (exponent f b) (fraction f b))
        (fraction f c) m m' h)
    go (is_nan_lem e n m) (is_finite e' m') =
        absurd
        (no' (meaning f c) (meaning f b) (negative f c) (negative f b) (magnitude f (exponent f c) (fraction f c))
        (fraction f b) m' m (sym h))
    go (is_infinite e z m) (is_nan_lem e' n' m') =
        absurd (no'' (meaning f b) (meaning f c) (negative f b) (negative f c) (fraction f c) m m' h)
    go (is_nan_lem e n m) (is_infinite e' z' m') =
        absurd (no'' (meaning f c) (meaning f b) (negative f c) (negative f b) (fraction f b) m' m (sym h))

-- ---- a magnitude that a format has

pub candidate_is : (f : Layout) (e t : ℕ) → t < leading f → candidate f (magnitude f e t) ≡ e * leading f + t
candidate_is f e t T =
    ap (packed f.fraction_bits) (mul-div_cancel (smallests f.fraction_bits e t) (pow_pos (unit f)))
    ∙ packed-smallests f.fraction_bits e t T

pub has_it : (f : Layout) (e t : ℕ) → e < all_ones f → t < leading f → has f (magnitude f e t) ≡ true
has_it f e t E T =
    rw (
      candidate_is f e t T,
      lt-ltb (e * leading f + t) (infinity f)
          (digits_lt E T),
      digits_div e T,
      digits_mod e T,
      eq-eqb (magnitude f e t) (magnitude f e t) refl,
    )
