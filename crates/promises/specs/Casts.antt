-- The casts, the tests for zero and the equalities, by the words of document 01, "Casts", each answer as it is told.
use Rattle.std.specs.Prelude.{ℕ, suc, ◌-◌, ◌*◌, ◌%◌, ◌^◌, ◌≤◌, ◌<◌, ◌≡◌, ◌⊎◌, Bool, true, false, List, [], ◌∷◌, ℤ, pos, negsuc}
use Rattle.std.specs.Int.Signed.{mag}
use Rattle.std.specs.Float.Ieee as Ieee
use mir.Syntax.{Sign, signed, unsigned, Width, w8, w16, w32, w64, w128}
use mir.Val.{bytes, hbits}
use Rattle.types.specs.Choice.{pick}
use Rattle.types.specs.Values.{value, wide_of}
use Rattle.types.specs.declared.Integer.{Integer}
use Rattle.types.specs.declared.Float.{Float}
use Rattle.types.specs.declared.Float.TheVariants as F
use Rattle.binary.specs.Formats.{single, sign_weight, finite, infinite, nan, meaning, NotNan}
use Rattle.binary.specs.Floats.{float_meaning}
use Rattle.cast.specs.Variants.{sign, width, in_range, equal_integers}
use Rattle.cast.specs.Variants as Variants
use Rattle.cast.specs.Casts.{castable, as_i8, as_i16, as_i32, as_i64, as_i128, as_u8, as_u16, as_u32, as_u64, as_u128, as_f32}
use Rattle.cast.specs.Casts.{as_f64}
use Rattle.cast.specs.Casts.{as_float}
use Rattle.cast.specs.Froms.{from}
use Rattle.float.specs.Values.{float_means, smallness, is_zero, equal_floats}
use Rattle.float.specs.Values as Values
use Rattle.float_cast.specs.Integral.{one, clamped, as_integer}
use Rattle.promises.specs.Told.{Told, told, integer_told, meaning_told, value_told, told_as_i8, told_as_i16, told_as_i32}
use Rattle.promises.specs.Told.{told_as_i64, told_as_u8, told_as_u16, told_as_u32, told_as_u64, told_as_wide, told_as_f32}
use Rattle.promises.specs.Told.{told_as_f64, told_as_float, told_as_integer}

-- ---- an integer as another

-- "each accepts a narrower or equal width, of either sign, if the value fits, and refuses every wider variant": what a
-- cast tells of an integer, and what it tells of a number
pub record CastRows (sort : Sign) (target : Width) (answer : Integer → Told)
    (numbers : ℤ → List ℤ) : Type 0 where
  pub answered : (x : Integer) →
      bytes (width x) ≤ bytes target →
      in_range sort target (value x) ≡ true →
      answer x ≡ told 0 (numbers (value x))
  pub wider : (x : Integer) →
      bytes target < bytes (width x) →
      answer x ≡ told 8 []
  pub outside : (x : Integer) →
      in_range sort target (value x) ≡ false →
      answer x ≡ told 8 []
  -- of what `From` made, exactly if the value fits
  pub of_from : (s : Sign) (w : Width) (z : ℤ) →
      in_range s w z ≡ true →
      answer (from s w z) ≡ pick (in_range sort target z) (told 0 (numbers z)) (told 8 [])

-- the number itself; "128-bit values become two 64-bit words"
abbrev pub itself : ℤ → List ℤ
itself z = z ∷ []

abbrev pub in_words : ℤ → List ℤ
in_words z = pos (wide_of z).lo ∷ pos (wide_of z).hi ∷ []

pub record EveryCast : Type 0 where
  pub as_i8_rows : CastRows signed w8 (λ x. told_as_i8 (as_i8 x)) itself
  pub as_i16_rows : CastRows signed w16 (λ x. told_as_i16 (as_i16 x)) itself
  pub as_i32_rows : CastRows signed w32 (λ x. told_as_i32 (as_i32 x)) itself
  pub as_i64_rows : CastRows signed w64 (λ x. told_as_i64 (as_i64 x)) itself
  pub as_i128_rows : CastRows signed w128 (λ x. told_as_wide (as_i128 x)) in_words
  pub as_u8_rows : CastRows unsigned w8 (λ x. told_as_u8 (as_u8 x)) itself
  pub as_u16_rows : CastRows unsigned w16 (λ x. told_as_u16 (as_u16 x)) itself
  pub as_u32_rows : CastRows unsigned w32 (λ x. told_as_u32 (as_u32 x)) itself
  pub as_u64_rows : CastRows unsigned w64 (λ x. told_as_u64 (as_u64 x)) itself
  pub as_u128_rows : CastRows unsigned w128 (λ x. told_as_wide (as_u128 x)) in_words

-- ---- an integer as a float

-- a number as a float: its sign, and its magnitude in units of 2^-1074
abbrev pub whole_told : ℤ → List ℤ
whole_told (pos n) = meaning_told (finite false (n * 2 ^ 1074))
whole_told (negsuc n) = meaning_told (finite true (suc n * 2 ^ 1074))

-- "`as_f32` takes what `as_i32` takes from -2^24 to 2^24 - 1, `as_f64` what `as_i64` takes from -2^53 to 2^53 - 1"
-- (`mag z` is n for n and for -(n + 1)): the float is that number
pub record WholeFloatRows (x : Integer) : Type 0 where
  pub f32_taken :
      castable signed w32 x ≡ true →
      mag (value x) < 2 ^ 24 →
      told_as_f32 (as_f32 x) ≡ told 0 (whole_told (value x))
  pub f32_outside :
      castable signed w32 x ≡ true →
      2 ^ 24 ≤ mag (value x) →
      told_as_f32 (as_f32 x) ≡ told 8 []
  pub f32_no_i32 :
      castable signed w32 x ≡ false →
      told_as_f32 (as_f32 x) ≡ told 8 []
  pub f64_taken :
      castable signed w64 x ≡ true →
      mag (value x) < 2 ^ 53 →
      told_as_f64 (as_f64 x) ≡ told 0 (whole_told (value x))
  pub f64_outside :
      castable signed w64 x ≡ true →
      2 ^ 53 ≤ mag (value x) →
      told_as_f64 (as_f64 x) ≡ told 8 []
  pub f64_no_i64 :
      castable signed w64 x ≡ false →
      told_as_f64 (as_f64 x) ≡ told 8 []
  -- "`as_float` tries the first, then the second"
  pub float_first : (numbers : List ℤ) →
      told_as_f32 (as_f32 x) ≡ told 0 numbers →
      told_as_float (as_float x) ≡ told 0 (pos 32 ∷ numbers)
  pub float_second : (numbers : List ℤ) →
      told_as_f32 (as_f32 x) ≡ told 8 [] →
      told_as_f64 (as_f64 x) ≡ told 0 numbers →
      told_as_float (as_float x) ≡ told 0 (pos 64 ∷ numbers)
  pub float_neither :
      told_as_f32 (as_f32 x) ≡ told 8 [] →
      told_as_f64 (as_f64 x) ≡ told 8 [] →
      told_as_float (as_float x) ≡ told 8 []

-- ---- a float as an integer, and as an F32

-- "clamps to i32 for F32, i64 for F64"
abbrev pub clamp_width : Float → Width
clamp_width (F.F32 x) = w32
clamp_width (F.F64 x) = w64

-- "`as_integer` takes whole values, and magnitudes under those bounds as 0, and clamps to i32 for F32, i64 for F64; the
-- answer is `From` of that i32 or i64. NaN and infinities are refused with 8."
pub record IntegralRows (x : Float) : Type 0 where
  pub whole : (s : Bool) (n : ℕ) →
      float_means x ≡ finite s (n * one) →
      told_as_integer (as_integer x)
      ≡ told 0 (integer_told (from signed (clamp_width x) (clamped (hbits (clamp_width x)) s n)))
  pub small : (s : Bool) (m : ℕ) →
      float_means x ≡ finite s m →
      m < 2 ^ (1074 - smallness x) →
      told_as_integer (as_integer x) ≡ told 0 (integer_told (from signed (clamp_width x) (pos 0)))
  pub fraction : (s : Bool) (m : ℕ) →
      float_means x ≡ finite s m →
      2 ^ (1074 - smallness x) ≤ m →
      (m % one ≡ 0 → ⊥) →
      told_as_integer (as_integer x) ≡ told 8 []
  pub infinity : (s : Bool) →
      float_means x ≡ infinite s →
      told_as_integer (as_integer x) ≡ told 8 []
  pub not_a_number : (s : Bool) (t : ℕ) →
      float_means x ≡ nan s t →
      told_as_integer (as_integer x) ≡ told 8 []

-- binary32 has a pattern that means what a value means
pub record InSingle (x : Ieee.Float) : Type 0 where
  pub pattern : ℕ
  pub in_format : pattern < 2 * sign_weight single
  pub is_number : NotNan (meaning single pattern)
  pub same_meaning : meaning single pattern ≡ float_meaning x

-- "`as_f32` of an F64 needs an equal value."
pub record NarrowedRows (x : Ieee.Float) : Type 0 where
  pub own : told_as_f32 (Values.as_f32 (F.F32 x)) ≡ told 0 (value_told x)
  pub equal : InSingle x → told_as_f32 (Values.as_f32 (F.F64 x)) ≡ told 0 (value_told x)
  pub none_equal : (InSingle x → ⊥) → told_as_f32 (Values.as_f32 (F.F64 x)) ≡ told 8 []

-- ---- zero, and equality

-- an integer's `is_zero`; a float's: "magnitude at most 2^-23 or 2^-52"
pub record IntegerZeroRows (x : Integer) : Type 0 where
  pub zero : value x ≡ pos 0 → Variants.is_zero x ≡ true
  pub other : (value x ≡ pos 0 → ⊥) → Variants.is_zero x ≡ false

pub record FloatZeroRows (x : Float) : Type 0 where
  pub small : (s : Bool) (m : ℕ) →
      float_means x ≡ finite s m →
      m ≤ 2 ^ (1074 - smallness x) →
      is_zero x ≡ true
  pub large : (s : Bool) (m : ℕ) →
      float_means x ≡ finite s m →
      2 ^ (1074 - smallness x) < m →
      is_zero x ≡ false
  pub infinity : (s : Bool) → float_means x ≡ infinite s → is_zero x ≡ false
  pub not_a_number : (s : Bool) (t : ℕ) → float_means x ≡ nan s t → is_zero x ≡ false

-- "Integers are equal only if variant and value are."
pub record EqualIntegerRows (a b : Integer) : Type 0 where
  pub same :
      sign a ≡ sign b →
      bytes (width a) ≡ bytes (width b) →
      value a ≡ value b →
      equal_integers a b ≡ true
  pub only :
      equal_integers a b ≡ true →
      (sign a ≡ sign b) × (bytes (width a) ≡ bytes (width b)) × (value a ≡ value b)

-- "Equality across widths widens the F32": floats are equal whose meaning is one number, and zeros of either sign; by
-- IEEE 754 a NaN equals nothing
pub record EqualFloatRows (a b : Float) : Type 0 where
  pub same :
      NotNan (float_means a) →
      float_means a ≡ float_means b →
      equal_floats a b ≡ true
  pub zeros : (s t : Bool) →
      float_means a ≡ finite s 0 →
      float_means b ≡ finite t 0 →
      equal_floats a b ≡ true
  pub only :
      equal_floats a b ≡ true →
      (NotNan (float_means a) × (float_means a ≡ float_means b))
      ⊎ ((s : Bool) × (t : Bool) × (float_means a ≡ finite s 0) × (float_means b ≡ finite t 0))
