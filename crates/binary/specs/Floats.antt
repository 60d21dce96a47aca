-- A float value of the logic, read as a meaning: what `of_bits` of a pattern is to be compared with. The logic has one
-- NaN, without sign or payload.
use Rattle.std.specs.Prelude.{ℕ, ◌+◌, ◌-◌, ◌*◌, ◌^◌, false, ℤ, pos, negsuc, Float}
use Rattle.std.specs.Float.{Format, binary32, binary64}
use Rattle.std.specs.Float.Ieee as I
use Rattle.binary.specs.Formats.{Layout, single, double, Meaning, finite, infinite, nan}

abbrev pub layout_of : Format → Layout
layout_of binary32 = single
layout_of binary64 = double

-- m * 2 ^ e in units of 2 ^ -1074
abbrev pub units_of : ℕ → ℤ → ℕ
units_of m (pos k) = m * 2 ^ (1074 + k)
units_of m (negsuc j) = m * 2 ^ (1073 - j)

unfoldable pub float_meaning : Float → Meaning
float_meaning I.nan = nan false 0
float_meaning (I.inf s) = infinite s
float_meaning (I.fin s m e) = finite s (units_of m e)

-- a meaning with the sign and the payload of a NaN forgotten
abbrev pub plain : Meaning → Meaning
plain (finite s m) = finite s m
plain (infinite s) = infinite s
plain (nan s t) = nan false 0
