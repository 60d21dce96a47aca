-- What a float answers of itself. Document 01, "Casts": "A float is an F32 or an F64 and carries its value." Both
-- widths are read as one meaning: a sign and a magnitude in units of 2^-1074, an infinity, or the NaN.
use Rattle.std.specs.Prelude.{ℕ, ◌-◌, ◌^◌, Bool, false, ◌&&◌, ◌||◌, leb, eqb, Result, Ok, Err, Option, Some, None}
use Rattle.std.specs.Bool.{beq}
use Rattle.std.specs.Float.Ieee as Ieee
use Rattle.types.specs.declared.Refusal.{Refusal}
use Rattle.types.specs.declared.Float.{Float}
use Rattle.types.specs.declared.Float.TheVariants as F
use Rattle.types.specs.declared.Refusal.TheVariants as R
use Rattle.binary.specs.Formats.{single, Meaning, finite, infinite, nan}
use Rattle.binary.specs.Conversions.{narrowed_meaning}
use Rattle.binary.specs.Floats.{float_meaning}

-- the value that a float carries; `as_f64`, since every binary32 value is a binary64 value
abbrev pub float_value : Float → Ieee.Float
float_value (F.F32 x) = x
float_value (F.F64 x) = x

-- what it means
abbrev pub float_means : Float → Meaning
float_means x = float_meaning (float_value x)

-- "2^-23 or 2^-52", as its exponent
abbrev pub smallness : Float → ℕ
smallness (F.F32 x) = 23
smallness (F.F64 x) = 52

-- whether a number is at most 2 ^ -k: 2 ^ (1074 - k) units
abbrev pub at_most : ℕ → Meaning → Bool
at_most k (finite s m) = leb m (2 ^ (1074 - k))
at_most k (infinite s) = false
at_most k (nan s t) = false

-- "`is_zero`: magnitude at most 2^-23 or 2^-52."
unfoldable pub is_zero : Float → Bool
is_zero x = at_most (smallness x) (float_means x)

-- a value that has an equal one in binary32, or the refusal
abbrev pub if_equal : Ieee.Float → Option ℕ → Result Ieee.Float Refusal
if_equal x (Some q) = Ok x
if_equal x None = Err R.ImpreciseCastWouldLoseData

-- "`as_f32` of an F64 needs an equal value."
unfoldable pub as_f32 : Float → Result Ieee.Float Refusal
as_f32 (F.F32 x) = Ok x
as_f32 (F.F64 x) = if_equal x (narrowed_meaning single (float_meaning x))

-- IEEE 754: equal numbers, zeros of either sign among them; a NaN equals nothing
abbrev pub equal_numbers : Meaning → Meaning → Bool
equal_numbers (finite s m) (finite t n) = eqb m n && (beq s t || eqb m 0)
equal_numbers (finite s m) (infinite t) = false
equal_numbers (finite s m) (nan t n) = false
equal_numbers (infinite s) (finite t n) = false
equal_numbers (infinite s) (infinite t) = beq s t
equal_numbers (infinite s) (nan t n) = false
equal_numbers (nan s m) b = false

-- "Equality across widths widens the F32": the value stays
unfoldable pub equal_floats : Float → Float → Bool
equal_floats a b = equal_numbers (float_means a) (float_means b)
