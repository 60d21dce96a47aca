-- A float as an integer. Document 01, "Casts": "`as_integer` takes whole values, and magnitudes under those bounds as
-- 0, and clamps to i32 for F32, i64 for F64; the answer is `From` of that i32 or i64. NaN and infinities are refused
-- with 8."
use Rattle.std.specs.Prelude.{ℕ, ◌-◌, ◌/◌, ◌%◌, ◌^◌, Bool, true, false, ltb, eqb, ℤ, pos, neg_ℤ, Result, Ok, Err}
use mir.Syntax.{signed, Width, w32, w64}
use mir.Val.{hbits}
use Rattle.types.specs.declared.Integer.{Integer}
use Rattle.types.specs.declared.Refusal.{Refusal}
use Rattle.types.specs.Choice.{pick}
use Rattle.types.specs.declared.Float.{Float}
use Rattle.types.specs.declared.Float.TheVariants as F
use Rattle.types.specs.declared.Refusal.TheVariants as R
use Rattle.binary.specs.Formats.{Meaning, finite, infinite, nan}
use Rattle.binary.specs.Floats.{float_meaning}
use Rattle.cast.specs.Froms.{from}

-- 1 in units of 2^-1074
abbrev pub one : ℕ
one = 2 ^ 1074

-- "whole values, and magnitudes under those bounds as 0": of m units, under 2 ^ -k
abbrev pub takes : ℕ → ℕ → Bool
takes k m = pick (ltb m (2 ^ (1074 - k))) true (eqb (m % one) 0)

abbrev pub least : ℕ → ℕ → ℕ
least a b = pick (ltb a b) a b

-- "clamps to i32 for F32, i64 for F64": a number of h bits beside its sign, from -2 ^ h to 2 ^ h - 1
abbrev pub clamped : ℕ → Bool → ℕ → ℤ
clamped h false n = pos (least n (2 ^ h - 1))
clamped h true n = neg_ℤ (pos (least n (2 ^ h)))

unfoldable pub integral : ℕ → Width → Meaning → Result Integer Refusal
integral k w (finite s m) =
    pick (takes k m) (Ok (from signed w (clamped (hbits w) s (m / one))))
    (Err R.ImpreciseCastWouldLoseData)
integral k w (infinite s) = Err R.ImpreciseCastWouldLoseData
integral k w (nan s t) = Err R.ImpreciseCastWouldLoseData

unfoldable pub as_integer : Float → Result Integer Refusal
as_integer (F.F32 x) = integral 23 w32 (float_meaning x)
as_integer (F.F64 x) = integral 52 w64 (float_meaning x)
