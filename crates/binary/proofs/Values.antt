-- The logic's own account of `f32` and `f64` agrees with the formats of this crate: what `of_bits` reads from a pattern
-- has the pattern's sign and magnitude, is the same infinity, or is the NaN exactly at a NaN's pattern. Rests on
-- `lib.Ieee`: that `odd` keeps its value, and that what is read fits its format.
use Rattle.std.specs.Prelude.{Some}
use mathlib.Core.Path.{◌≡◌, refl, sym, ap, ◌∙◌, subst}
use mathlib.Core.Bool.{Bool, true, false, cond, false≢true}
use Prim.Native.Nat.{ℕ, zero, suc, ◌+◌, ◌-◌, ◌*◌, ◌/◌, ◌%◌, ◌^◌, ◌<◌}
use native.Mathlib.Nat.{mul-one}
use lib.Dec.{T, leb, eqb, lit<}
use lib.Ieee.{Float, Format, binary32, binary64, prec, low, hid, ones, top, odd, fits, of_fields, of_bits, to_bits}
use lib.Ieee as I
use lib.Ieee.Bits.{of_bits-fits, of_bits-to_bits, to_bits-lt}
use lib.Ieee.Exact.{HasValue, odd_sign}
use lib.Ieee.Fits.{fits_widens}
use Rattle.binary.specs.Formats.{half, single, double, leading, sign_weight, all_ones, unit, negative, fraction, smallests, magnitude, Meaning, finite, infinite, nan, meaning, NotNan}
use Rattle.binary.specs.Conversions.{quieted, widened, narrowed}
use Rattle.binary.specs.Floats.{layout_of, units_of, float_meaning, plain}
use Rattle.binary.proofs.Units.{Fine, fine, counted}
use Rattle.binary.proofs.Patterns.{meant, meaning_is, meant-finite, Reading, is_finite, is_infinite, is_nan_lem, reading, one_pattern}
use Rattle.binary.proofs.Widths.{half-single, single-double}
use Rattle.binary.proofs.Laws.{widened_lt, widened_keeps, widened-narrowed, widened-nan}

value_means : (x : Float) (s : Bool) (n l j : ℕ) → l + j ≡ 1074 → Fine x → HasValue x s n (2 ^ l) →
    float_meaning x ≡ finite s (n * 2 ^ j)
unfolding float_meaning
value_means I.nan s n l j L d h = absurd h
value_means (I.inf t) s n l j L d h = absurd h
value_means (I.fin t m e) s n l j L d h = ap (λ (b : Bool). finite b (units_of m e)) h.0
    ∙ ap (finite s) (counted l j m n e L d h.1)

-- ---- what the fields are read as

low-unit : (f : Format) → low f + unit (layout_of f) ≡ 1074
low-unit binary32 = refl
low-unit binary64 = refl

same_ones : (f : Format) → ones f ≡ all_ones (layout_of f)
same_ones binary32 = refl
same_ones binary64 = refl

same_lead : (f : Format) → hid f ≡ leading (layout_of f)
same_lead binary32 = refl
same_lead binary64 = refl

same_sign_lem : (f : Format) → top f ≡ sign_weight (layout_of f)
same_sign_lem binary32 = refl
same_sign_lem binary64 = refl

some_ones : (f : Format) → 0 < all_ones (layout_of f)
some_ones binary32 = lit< tt
some_ones binary64 = lit< tt

by_tests : (a b : Bool) (s : Bool) (t : ℕ) (x : Float) (y : Meaning) → (a ≡ false → float_meaning x ≡ plain y)
    → float_meaning (cond a (cond b (I.inf s) I.nan) x) ≡ plain (cond a (cond b (infinite s) (nan s t)) y)
unfolding float_meaning
by_tests true true s t x y h = refl
by_tests true false s t x y h = refl
by_tests false b s t x y h = h refl

fits_inside : (f : Format) (a b : Bool) (s : Bool) (x : Float) → a ≡ false →
    T (fits f (cond a (cond b (I.inf s) I.nan) x)) → T (fits f x)
fits_inside f a b s x e F = subst (λ (c : Bool). T (fits f (cond c (cond b (I.inf s) I.nan) x))) e F

low_means : (f : Format) (s : Bool) (q x : ℕ) → T (fits f (odd (prec f) s q x (low f))) →
    float_meaning (odd (prec f) s q x (low f)) ≡ finite s (q * 2 ^ x * 2 ^ unit (layout_of f))
low_means f s q x F =
    value_means (odd (prec f) s q x (low f)) s (q * 2 ^ x) (low f) (unit (layout_of f)) (low-unit f)
    (fine f (odd (prec f) s q x (low f)) F) (odd_sign (prec f) s q x (low f))

fields_mean : (f : Format) (s : Bool) (x t : ℕ) → T (fits f (of_fields f s x t)) →
    float_meaning (of_fields f s x t) ≡ plain (meant (layout_of f) s x t)
unfolding of_fields smallests
fields_mean f s zero t F =
    low_means f s t 0 F
    ∙ ap (λ (n : ℕ). finite s (n * 2 ^ unit (layout_of f))) (mul-one t)
    ∙ sym (ap plain (meant-finite (layout_of f) s 0 t (some_ones f)))
fields_mean f s (suc x) t F =
    let o = odd (prec f) s (hid f + t) x (low f) in
    by_tests (eqb (suc x) (ones f)) (eqb t 0) s t o (finite s (magnitude (layout_of f) (suc x) t))
    (λ e. low_means f s (hid f + t) x (fits_inside f (eqb (suc x) (ones f)) (eqb t 0) s o e F)
    ∙ ap (λ (h : ℕ). finite s ((h + t) * 2 ^ x * 2 ^ unit (layout_of f))) (same_lead f))
    ∙ ap (λ (n : ℕ). plain (cond (eqb (suc x) n) (cond (eqb t 0) (infinite s) (nan s t))
    (finite s (magnitude (layout_of f) (suc x) t)))) (same_ones f)

fields_are : (f : Format) (b : ℕ) → of_bits f b ≡ of_fields f (leb (top f) b) (b % top f / hid f) (b % hid f)
unfolding of_bits
fields_are f b = refl

-- the tie: what the logic reads from a pattern is what the pattern means
pub of_bits_means : (f : Format) (b : ℕ) → float_meaning (of_bits f b) ≡ plain (meaning (layout_of f) b)
of_bits_means f b =
    ap float_meaning (fields_are f b)
    ∙ fields_mean f (leb (top f) b) (b % top f / hid f) (b % hid f)
    (subst (λ (x : Float). T (fits f x)) (fields_are f b) (of_bits-fits f b))
    ∙ ap (λ (w : ℕ). plain (meant (layout_of f) (leb w b) (b % w / hid f) (b % hid f))) (same_sign_lem f)
    ∙ ap (λ (h : ℕ). plain (meant (layout_of f) (negative (layout_of f) b) (b % sign_weight (layout_of f) / h) (b % h)))
    (same_lead f)
    ∙ sym (ap plain (meaning_is (layout_of f) b))

-- ---- so a float that fits has the pattern that means it

pub to_bits_means : (f : Format) (x : Float) → T (fits f x) → plain (meaning (layout_of f) (to_bits f x)) ≡ float_meaning x
to_bits_means f x F = sym (of_bits_means f (to_bits f x)) ∙ ap float_meaning (of_bits-to_bits f x F)

differ : (s : Bool) (m : ℕ) → nan false 0 ≡ finite s m → ⊥
differ s m h = false≢true cc

differ' : (s : Bool) → nan false 0 ≡ infinite s → ⊥
differ' s h = false≢true cc

plain_number : (y z : Meaning) → plain y ≡ plain z → NotNan z → y ≡ z
plain_number (finite s m) (finite t n) h k = h
plain_number (finite s m) (infinite t) h k = h
plain_number (infinite s) (finite t n) h k = h
plain_number (infinite s) (infinite t) h k = h
plain_number (nan s m) (finite t n) h k = absurd (differ t n h)
plain_number (nan s m) (infinite t) h k = absurd (differ' t h)
plain_number y (nan t n) h k = absurd k

plain_is : (y : Meaning) → NotNan y → plain y ≡ y
plain_is (finite s m) k = refl
plain_is (infinite s) k = refl
plain_is (nan s t) k = absurd k

nan_float : (x : Float) → float_meaning x ≡ nan false 0 → x ≡ I.nan
unfolding float_meaning
nan_float I.nan h = refl
nan_float (I.inf s) h = absurd (differ' s (sym h))
nan_float (I.fin s m e) h = absurd (differ s (units_of m e) (sym h))

-- a NaN's pattern is read as the NaN
pub nan_value : (f : Format) (b : ℕ) (s : Bool) (t : ℕ) → meaning (layout_of f) b ≡ nan s t → of_bits f b ≡ I.nan
nan_value f b s t h = nan_float (of_bits f b) (of_bits_means f b ∙ ap plain h)

-- a number's pattern is the one that means it
pub pattern_of : (f : Format) (x : Float) (b : ℕ) → T (fits f x) → b < 2 * sign_weight (layout_of f) →
    NotNan (meaning (layout_of f) b) → float_meaning x ≡ meaning (layout_of f) b → to_bits f x ≡ b
pattern_of f x b F B n h =
    one_pattern (layout_of f) (to_bits f x) b (subst (λ (w : ℕ). to_bits f x < 2 * w) (same_sign_lem f) (to_bits-lt f x F)) B
    (plain_number (meaning (layout_of f) (to_bits f x)) (meaning (layout_of f) b)
    (to_bits_means f x F ∙ h ∙ sym (plain_is (meaning (layout_of f) b) n)) n)

-- ---- the two widths of a value

-- widening a pattern keeps the float that it is read as, a NaN's too
pub widened_value : (b : ℕ) → of_bits binary64 (widened single double b) ≡ of_bits binary32 b
widened_value b = go (reading single b)
  where
    number : NotNan (meaning single b) → of_bits binary64 (widened single double b) ≡ of_bits binary32 b
    number n =
        let x = of_bits binary32 b in
        let F : T (fits binary64 x) = fits_widens x (of_bits-fits binary32 b) in
        let w = widened single double b in
        let k : meaning double w ≡ meaning single b = widened_keeps single-double b n in
        let m : NotNan (meaning double w) = subst NotNan (sym k) n in
        let q : to_bits binary64 x ≡ w =
        pattern_of binary64 x w F (widened_lt single-double b n) m
        (of_bits_means binary32 b ∙ plain_is (meaning single b) n ∙ sym k) in
        ap (of_bits binary64) (sym q) ∙ of_bits-to_bits binary64 x F

    go : Reading single b → of_bits binary64 (widened single double b) ≡ of_bits binary32 b
    go (is_finite e m) = number (subst NotNan (sym m) tt)
    go (is_infinite e z m) = number (subst NotNan (sym m) tt)
    go (is_nan_lem e z m) =
        nan_value binary64 (widened single double b) (negative single b)
        (quieted double (fraction single b * 2 ^ (double.fraction_bits - single.fraction_bits)))
        (widened-nan single double b (negative single b) (fraction single b) (lit< tt) m)
        ∙ sym (nan_value binary32 b (negative single b) (fraction single b) m)

-- what narrows is the same float
pub narrowed_value : (b q : ℕ) → b < 2 * sign_weight double → narrowed double single b ≡ Some q →
    of_bits binary32 q ≡ of_bits binary64 b
narrowed_value b q B h = sym (widened_value q) ∙ ap (of_bits binary64) (widened-narrowed single-double b q B h)

-- ---- a binary16 pattern is read through binary32

pub half_value : (h : ℕ) → float_meaning (of_bits binary32 (widened half single h)) ≡ plain (meaning half h)
half_value h = of_bits_means binary32 (widened half single h) ∙ go (reading half h)
  where
    go : Reading half h → plain (meaning single (widened half single h)) ≡ plain (meaning half h)
    go (is_finite e m) = ap plain (widened_keeps half-single h (subst NotNan (sym m) tt))
    go (is_infinite e z m) = ap plain (widened_keeps half-single h (subst NotNan (sym m) tt))
    go (is_nan_lem e n m) = ap plain (widened-nan half single h (negative half h) (fraction half h) (lit< tt) m)
        ∙ sym (ap plain m)
