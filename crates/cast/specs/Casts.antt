-- The checked casts of an integer. Document 01, "Casts".
use Rattle.std.specs.Prelude.{◌^◌, Bool, ◌&&◌, leb, ltb, ℤ, nat_abs, Result, Ok, Err, ℕ}
use Rattle.std.specs.Int.Signed.{mag}
use Rattle.std.specs.Float.Ieee
use mir.Syntax.{Sign, unsigned, signed, Width, w8, w16, w32, w64, w128}
use mir.Val.{bytes}
use Rattle.types.specs.declared.Float.{Float}
use Rattle.types.specs.Choice.{pick}
use Rattle.types.specs.declared.Integer.{Integer}
use Rattle.types.specs.declared.Wide.{Wide}
use Rattle.types.specs.declared.Refusal.{Refusal}
use Rattle.types.specs.declared.Refusal.TheVariants as R
use Rattle.types.specs.declared.Float.TheVariants as F
use Rattle.types.specs.Values.{value, wide_of}
use Rattle.cast.specs.Variants.{width, in_range}

-- "each accepts a narrower or equal width, of either sign, if the value fits, and refuses every wider variant"
abbrev pub castable : Sign → Width → Integer → Bool
castable s w x = leb (bytes (width x)) (bytes w) && in_range s w (value x)

-- the answer of a cast to a sign and a width: the value, or the refusal
unfoldable pub cast : {X : Type 0} → Sign → Width → (ℤ → X) → (Refusal → X) → Integer → X
cast s w taken refused x = pick (castable s w x) (taken (value x)) (refused R.ImpreciseCastWouldLoseData)

-- two words between the signed and the unsigned 128 bits: the same words, if they stand for a number below 2 ^ 127
abbrev pub kept_words : Wide → Result Wide Refusal
kept_words p = pick (ltb p.hi (2 ^ 63)) (Ok p) (Err R.ImpreciseCastWouldLoseData)

abbrev pub as_i8 : Integer → Result ℤ Refusal
as_i8 = cast signed w8 Ok Err

abbrev pub as_i16 : Integer → Result ℤ Refusal
as_i16 = cast signed w16 Ok Err

abbrev pub as_i32 : Integer → Result ℤ Refusal
as_i32 = cast signed w32 Ok Err

abbrev pub as_i64 : Integer → Result ℤ Refusal
as_i64 = cast signed w64 Ok Err

abbrev pub as_i128 : Integer → Result Wide Refusal
as_i128 = cast signed w128 (λ z. Ok (wide_of z)) Err

abbrev pub as_u8 : Integer → Result ℕ Refusal
as_u8 = cast unsigned w8 (λ z. Ok (nat_abs z)) Err

abbrev pub as_u16 : Integer → Result ℕ Refusal
as_u16 = cast unsigned w16 (λ z. Ok (nat_abs z)) Err

abbrev pub as_u32 : Integer → Result ℕ Refusal
as_u32 = cast unsigned w32 (λ z. Ok (nat_abs z)) Err

abbrev pub as_u64 : Integer → Result ℕ Refusal
as_u64 = cast unsigned w64 (λ z. Ok (nat_abs z)) Err

abbrev pub as_u128 : Integer → Result Wide Refusal
as_u128 = cast unsigned w128 (λ z. Ok (wide_of z)) Err

-- a whole number from -2 ^ p to 2 ^ p - 1, for a format of p digits, as the float of that format
abbrev pub whole_float : {X : Type 0} → Ieee.Format → (Ieee.Float → X) → (Refusal → X) → ℤ → X
whole_float f taken refused z =
    pick (ltb (mag z) (2 ^ Ieee.prec f)) (taken (Ieee.of_int f z)) (refused R.ImpreciseCastWouldLoseData)

-- "`as_f32` takes what `as_i32` takes from -2^24 to 2^24 - 1"
abbrev pub float_of_i32 : Result ℤ Refusal → Result Ieee.Float Refusal
float_of_i32 (Ok z) = whole_float Ieee.binary32 Ok Err z
float_of_i32 (Err r) = Err r

abbrev pub as_f32 : Integer → Result Ieee.Float Refusal
as_f32 x = float_of_i32 (as_i32 x)

-- "`as_f64` what `as_i64` takes from -2^53 to 2^53 - 1"
abbrev pub float_of_i64 : Result ℤ Refusal → Result Ieee.Float Refusal
float_of_i64 (Ok z) = whole_float Ieee.binary64 Ok Err z
float_of_i64 (Err r) = Err r

abbrev pub as_f64 : Integer → Result Ieee.Float Refusal
as_f64 x = float_of_i64 (as_i64 x)

-- "`as_float` tries the first, then the second"
abbrev pub first_float : Result Ieee.Float Refusal → Result Ieee.Float Refusal → Result Float Refusal
first_float (Ok v) second = Ok (F.F32 v)
first_float (Err r) (Ok v) = Ok (F.F64 v)
first_float (Err r) (Err q) = Err q

abbrev pub as_float : Integer → Result Float Refusal
as_float x = first_float (as_f32 x) (as_f64 x)
