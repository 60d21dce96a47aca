-- The casts to floats, by document 01's words, for demand 2: "`as_f32` of an F64 needs an equal value"; "`as_f32` takes
-- what `as_i32` takes from -2^24 to 2^24 - 1, `as_f64` what `as_i64` takes from -2^53 to 2^53 - 1; `as_float` tries the
-- first, then the second". And the narrowing of patterns.
use Rattle.std.specs.Prelude.{Result, Ok, Err, Option, Some, None}
use mathlib.Core.Path.{◌≡◌, refl, sym, ap, ◌∙◌, subst}
use mathlib.Core.Bool.{Bool, true, false}
use mathlib.Core.List.{List, [], ◌∷◌}
use Prim.Native.Nat.{ℕ, suc, ◌*◌, ◌^◌, ◌≤◌, ◌<◌}
use native.Mathlib.Omega.{arith}
use lib.Dec.{T, ltb}
use lib.IntN.{ℤ, pos, negsuc}
use lib.Signed.{mag}
use lib.Ieee as Ieee
use mir.Syntax.{signed, w32, w64}
use borrow.Author.Tests.{lt-ltb, le-ltb}
use Rattle.types.specs.Refusals.{refusal_number}
use Rattle.types.specs.declared.Integer.{Integer}
use Rattle.types.specs.declared.Float.TheVariants as F
use Rattle.types.specs.declared.Refusal.{Refusal}
use Rattle.types.specs.declared.Refusal.TheVariants as R
use Rattle.binary.specs.Formats.{Layout, single, double, sign_weight, Meaning, finite, infinite, nan, meaning, NotNan}
use Rattle.binary.specs.Formats.{SameValue}
use Rattle.binary.specs.Conversions.{narrowed_meaning, narrowed}
use Rattle.binary.specs.Floats.{float_meaning, plain, units_of}
use Rattle.binary.proofs.Values.{to_bits_means}
use Rattle.binary.proofs.Laws.{narrowed_sound, narrowed_complete}
use Rattle.types.specs.Values.{value}
use Rattle.cast.specs.Casts as Casts
use Rattle.cast.proofs.Exact.{Counted, whole_units}
use Rattle.float.specs.Values as Values
use Rattle.promises.specs.Told.{Told, told, meaning_told, value_told, told_as_f32, told_as_f64, told_as_float}
use Rattle.promises.specs.Casts.{whole_told, WholeFloatRows, NarrowedRows}
use Rattle.promises.specs.Floats.{NarrowingRows}

-- ---- an F64 as an F32

-- a number's meaning is the meaning of its bits
plain_number : (m n : Meaning) → plain m ≡ n → NotNan n → m ≡ n
plain_number (finite s k) n e h = e
plain_number (infinite s) n e h = e
plain_number (nan s t) n e h = absurd (subst NotNan (sym e) h)

module _ (x : Ieee.Float) (f : T (Ieee.fits Ieee.binary64 x)) where
  bits_mean : NotNan (float_meaning x) → meaning double (Ieee.to_bits Ieee.binary64 x) ≡ float_meaning x
  bits_mean n =
      plain_number (meaning double (Ieee.to_bits Ieee.binary64 x)) (float_meaning x) (to_bits_means Ieee.binary64 x f) n

  bits_narrow : NotNan (float_meaning x) →
      narrowed double single (Ieee.to_bits Ieee.binary64 x) ≡ narrowed_meaning single (float_meaning x)
  unfolding narrowed
  bits_narrow n = ap (narrowed_meaning single) (bits_mean n)

  -- an equal binary32 value: the value is taken
  equal_taken : (q : ℕ) → q < 2 * sign_weight single → NotNan (meaning single q) →
      meaning single q ≡ float_meaning x → Values.as_f32 (F.F64 x) ≡ Ok x
  unfolding Values.as_f32
  equal_taken q l n e =
      let k : NotNan (float_meaning x) = subst NotNan e n in
      let same = bits_mean k in
      let found =
      narrowed_complete double single (Ieee.to_bits Ieee.binary64 x) q (l, subst NotNan (sym same) k, e ∙ sym same)
      in
      ap (Values.if_equal x) (sym (bits_narrow k) ∙ found)

  -- none: refused
  unequal_refused :
      ((q : ℕ) → q < 2 * sign_weight single → NotNan (meaning single q) → meaning single q ≡ float_meaning x → ⊥) →
      Values.as_f32 (F.F64 x) ≡ Err R.ImpreciseCastWouldLoseData
  unfolding Values.as_f32
  unequal_refused none = by (float_meaning x) refl
    where
      found : NotNan (float_meaning x) → (r : Option ℕ) → narrowed double single (Ieee.to_bits Ieee.binary64 x) ≡ r →
          Values.if_equal x (narrowed_meaning single (float_meaning x)) ≡ Err R.ImpreciseCastWouldLoseData
      found k (Some q) h =
          let v = narrowed_sound double single (Ieee.to_bits Ieee.binary64 x) q h in
          let e = v.2 ∙ bits_mean k in
          absurd (none q v.0 (subst NotNan (sym e) k) e)
      found k None h = ap (Values.if_equal x) (sym (bits_narrow k) ∙ h)

      by : (m : Meaning) → float_meaning x ≡ m →
          Values.if_equal x (narrowed_meaning single (float_meaning x)) ≡ Err R.ImpreciseCastWouldLoseData
      by (finite s m) e = found (subst NotNan (sym e) tt) (narrowed double single (Ieee.to_bits Ieee.binary64 x)) refl
      by (infinite s) e = found (subst NotNan (sym e) tt) (narrowed double single (Ieee.to_bits Ieee.binary64 x)) refl
      by (nan s t) e = ap (λ (m : Meaning). Values.if_equal x (narrowed_meaning single m)) e

  pub narrowed_rows : NarrowedRows x
  unfolding Values.as_f32
  narrowed_rows = record {
    own = refl;
    equal = λ i. ap told_as_f32 (equal_taken i.pattern i.in_format i.is_number i.same_meaning);
    none_equal = λ none. ap told_as_f32
        (unequal_refused
        (λ q l n e. none (record { pattern = q; in_format = l; is_number = n; same_meaning = e })));
  }

-- ---- the narrowing of a pattern

module _ (from to : Layout) (tell : Option ℕ → Told)
    (told-exact : (q : ℕ) → tell (Some q) ≡ told 0 (pos q ∷ [])) (told-lost : tell None ≡ told 0 []) where
  pub narrowing_rows : NarrowingRows from to (λ bits. tell (narrowed from to bits))
  narrowing_rows = record {
    equal = λ bits q v. ap tell (narrowed_complete from to bits q v) ∙ told-exact q;
    none_equal = λ bits none. by bits none (narrowed from to bits) refl;
  }
    where
      by : (bits : ℕ) → ((q : ℕ) → SameValue from to bits q → ⊥) → (n : Option ℕ) → narrowed from to bits ≡ n →
          tell (narrowed from to bits) ≡ told 0 []
      by bits none (Some q) e = absurd (none q (narrowed_sound from to bits q e))
      by bits none None e = ap tell e ∙ told-lost

-- ---- an integer as a float

-- the float that a cast makes of a number is that number
counted_means : (x : Ieee.Float) (s : Bool) (u : ℕ) → Counted x s u → float_meaning x ≡ finite s u
unfolding float_meaning
counted_means Ieee.nan s u h = absurd h
counted_means (Ieee.inf t) s u h = absurd h
counted_means (Ieee.fin t m e) s u h = ap (λ (b : Bool). finite b (units_of m e)) h.0 ∙ ap (finite s) h.1

whole_told_lem : (f : Ieee.Format) (z : ℤ) → ltb (mag z) (2 ^ Ieee.prec f) ≡ true → value_told (Ieee.of_int f z) ≡ whole_told z
whole_told_lem f (pos n) h =
    ap meaning_told (counted_means (Ieee.of_int f (pos n)) false (n * 2 ^ 1074) (whole_units f (pos n) h))
whole_told_lem f (negsuc n) h =
    ap meaning_told (counted_means (Ieee.of_int f (negsuc n)) true (suc n * 2 ^ 1074) (whole_units f (negsuc n) h))

module _ (x : Integer) where
  f32_taken : Casts.castable signed w32 x ≡ true → mag (value x) < 2 ^ 24 →
      told_as_f32 (Casts.as_f32 x) ≡ told 0 (whole_told (value x))
  unfolding Casts.cast
  f32_taken c h =
      let k = lt-ltb (mag (value x)) (2 ^ 24) h in
      rw (c, k) (ap (λ (l : List ℤ). told 0 l) (whole_told_lem Ieee.binary32 (value x) k))

  f32_outside : Casts.castable signed w32 x ≡ true → 2 ^ 24 ≤ mag (value x) → told_as_f32 (Casts.as_f32 x) ≡ told 8 []
  unfolding Casts.cast
  f32_outside c h = rw (c, le-ltb (mag (value x)) (2 ^ 24) h) refl

  f32_no_i32 : Casts.castable signed w32 x ≡ false → told_as_f32 (Casts.as_f32 x) ≡ told 8 []
  unfolding Casts.cast
  f32_no_i32 c = rw c refl

  f64_taken : Casts.castable signed w64 x ≡ true → mag (value x) < 2 ^ 53 →
      told_as_f64 (Casts.as_f64 x) ≡ told 0 (whole_told (value x))
  unfolding Casts.cast
  f64_taken c h =
      let k = lt-ltb (mag (value x)) (2 ^ 53) h in
      rw (c, k) (ap (λ (l : List ℤ). told 0 l) (whole_told_lem Ieee.binary64 (value x) k))

  f64_outside : Casts.castable signed w64 x ≡ true → 2 ^ 53 ≤ mag (value x) → told_as_f64 (Casts.as_f64 x) ≡ told 8 []
  unfolding Casts.cast
  f64_outside c h = rw (c, le-ltb (mag (value x)) (2 ^ 53) h) refl

  f64_no_i64 : Casts.castable signed w64 x ≡ false → told_as_f64 (Casts.as_f64 x) ≡ told 8 []
  unfolding Casts.cast
  f64_no_i64 c = rw c refl

-- a refusal's number is none of what is taken
some_number : (r : Refusal) → refusal_number r ≡ 0 → ⊥
some_number R.IncompatibleVersion e = omega arith
some_number (R.InvalidKind code) e = omega arith
some_number (R.UnknownSpecial number) e = omega arith
some_number R.Eof e = omega arith
some_number R.TooManyBytesRead e = omega arith
some_number (R.UnsupportedByteCount kind count) e = omega arith
some_number (R.UnexpectedKind kind wanted) e = omega arith
some_number R.ImpreciseCastWouldLoseData e = omega arith
some_number R.NoRoom e = omega arith
some_number R.TooLong e = omega arith
some_number R.NotShortest e = omega arith

same_number : {a b : Told} → a ≡ b → a.number ≡ b.number
same_number e = ap (λ (t : Told). t.number) e

-- the first float, or else the second, or its refusal
first : (a : Result Ieee.Float Refusal) (b : Result Ieee.Float Refusal) (numbers : List ℤ) → told_as_f32 a ≡ told 0 numbers →
    told_as_float (Casts.first_float a b) ≡ told 0 (pos 32 ∷ numbers)
first (Ok v) b numbers e = ap (λ (t : Told). told 0 (pos 32 ∷ t.values)) e
first (Err r) b numbers e = absurd (some_number r (same_number e))

second : (a : Result Ieee.Float Refusal) (b : Result Ieee.Float Refusal) (numbers : List ℤ) → told_as_f32 a ≡ told 8 [] → told_as_f64 b ≡ told 0 numbers →
    told_as_float (Casts.first_float a b) ≡ told 0 (pos 64 ∷ numbers)
second (Ok v) b numbers e h = let k = same_number e in absurd (omega arith)
second (Err r) (Ok v) numbers e h = ap (λ (t : Told). told 0 (pos 64 ∷ t.values)) h
second (Err r) (Err q) numbers e h = absurd (some_number q (same_number h))

neither : (a : Result Ieee.Float Refusal) (b : Result Ieee.Float Refusal) → told_as_f32 a ≡ told 8 [] → told_as_f64 b ≡ told 8 [] →
    told_as_float (Casts.first_float a b) ≡ told 8 []
neither (Ok v) b e h = let k = same_number e in absurd (omega arith)
neither (Err r) (Ok v) e h = let k = same_number h in absurd (omega arith)
neither (Err r) (Err q) e h = h

pub whole_floats : (x : Integer) → WholeFloatRows x
whole_floats x = record {
  f32_taken = f32_taken x;
  f32_outside = f32_outside x;
  f32_no_i32 = f32_no_i32 x;
  f64_taken = f64_taken x;
  f64_outside = f64_outside x;
  f64_no_i64 = f64_no_i64 x;
  float_first = first (Casts.as_f32 x) (Casts.as_f64 x);
  float_second = second (Casts.as_f32 x) (Casts.as_f64 x);
  float_neither = neither (Casts.as_f32 x) (Casts.as_f64 x);
}
