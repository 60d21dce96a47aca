-- The steps of `as_integer`: the whole number that a magnitude is, as far as 2^63, before it gets its sign and its
-- width.
use Rattle.std.specs.Prelude.{ℕ, ◌+◌, ◌/◌, ◌%◌, ◌^◌, ltb, eqb, Option, Some, None}
use Rattle.types.specs.Choice.{pick}
use Rattle.binary.specs.Formats.{Meaning, finite, infinite, nan}
use Rattle.float_cast.specs.Integral.{one, least}

-- no signed number of 64 bits has a greater magnitude
abbrev pub most : ℕ
most = 2 ^ 63

unfoldable pub whole_of : ℕ → Option ℕ
whole_of m = pick (eqb (m % one) 0) (Some (least (m / one) most)) None

-- below 2 ^ (51 + small) units it is taken as 0: there the exponent's field of a binary64 number is below `small`
unfoldable pub whole_from : ℕ → Meaning → Option ℕ
whole_from small (finite s m) = pick (ltb m (2 ^ (51 + small))) (Some 0) (whole_of m)
whole_from small (infinite s) = None
whole_from small (nan s t) = None
