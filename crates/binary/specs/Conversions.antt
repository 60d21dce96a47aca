-- Widening and exact narrowing, as definitions that compute. What each is meant to be stands in words;
-- `proofs/Laws.antt` proves that it is.
use Rattle.std.specs.Prelude.{ℕ, ◌+◌, ◌-◌, ◌*◌, ◌/◌, ◌%◌, ◌^◌, Bool, cond, ◌&&◌, ltb, eqb, Option, Some, None}
use Rattle.std.specs.Float.Ieee.{size}
use Rattle.binary.specs.Formats.{Layout, leading, sign_weight, all_ones, unit, magnitude}
use Rattle.binary.specs.Formats.{Meaning, finite, infinite, nan, meaning, SameValue}

-- a pattern from its sign and the rest
abbrev pub with_sign : Layout → Bool → ℕ → ℕ
with_sign f s r = cond s (sign_weight f) 0 + r

-- the rest of an infinity's pattern
abbrev pub infinity : Layout → ℕ
infinity f = all_ones f * leading f

-- The rest of the pattern of n smallest values, for p fraction bits: n's leading digits, after the count of those that
-- were dropped. The leading digit itself, where there is one, adds 1 to the exponent's field.
unfoldable pub packed : ℕ → ℕ → ℕ
packed p n = (size n - (p + 1)) * 2 ^ p + n / 2 ^ (size n - (p + 1))

-- the one rest of a pattern that can have the magnitude m
abbrev pub candidate : Layout → ℕ → ℕ
candidate f m = packed f.fraction_bits (m / 2 ^ unit f)

-- whether the magnitude m is a finite value of the format
abbrev pub has : Layout → ℕ → Bool
has f m =
    ltb (candidate f m) (infinity f)
    && eqb (magnitude f (candidate f m / leading f) (candidate f m % leading f)) m

-- a NaN's fraction with the quiet bit, its highest digit, set
abbrev pub quieted : Layout → ℕ → ℕ
quieted f t = 2 ^ (f.fraction_bits - 1) + t % 2 ^ (f.fraction_bits - 1)

-- ---- widening: sign and magnitude are kept

-- "sign kept, exponent all ones, quiet bit set, fraction shifted up by 13", or "by 29": by the fraction bits that the
-- wider format has more
abbrev pub widened_meaning : Layout → Layout → Meaning → ℕ
widened_meaning from to (finite s m) = with_sign to s (candidate to m)
widened_meaning from to (infinite s) = with_sign to s (infinity to)
widened_meaning from to (nan s t) =
    with_sign to s (infinity to + quieted to (t * 2 ^ (to.fraction_bits - from.fraction_bits)))

unfoldable pub widened : Layout → Layout → ℕ → ℕ
unfolding meaning packed
widened from to b = widened_meaning from to (meaning from b)

-- ---- narrowing: the pattern of the narrower format with that sign and magnitude, if there is one; a NaN has none

abbrev pub narrowed_meaning : Layout → Meaning → Option ℕ
narrowed_meaning to (finite s m) = cond (has to m) (Some (with_sign to s (candidate to m))) None
narrowed_meaning to (infinite s) = Some (with_sign to s (infinity to))
narrowed_meaning to (nan s t) = None

unfoldable pub narrowed : Layout → Layout → ℕ → Option ℕ
unfolding meaning packed
narrowed from to b = narrowed_meaning to (meaning from b)

-- what is meant: the pattern that is answered has the value, and where none is answered no pattern has it
abbrev pub Narrows : Layout → Layout → ℕ → Option ℕ → Type 0
Narrows from to b (Some q) = SameValue from to b q
Narrows from to b None = (q : ℕ) → SameValue from to b q → ⊥
