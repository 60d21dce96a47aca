-- The binary formats of IEEE 754, stated once over the two numbers that fix one, and what a bit pattern means in it.
-- "Statements give a finite float as its sign and its magnitude counted in units of 2^-1074, a whole number for all
-- three widths; infinities and NaN are cases of their own."
use Rattle.std.specs.Prelude.{ℕ, zero, suc, ◌+◌, ◌-◌, ◌*◌, ◌/◌, ◌%◌, ◌^◌, ◌<◌, ◌≡◌, Bool, cond, leb, eqb}

-- ---- the formats

-- A pattern is, from its lowest digit up, the fraction, the exponent's field and one digit for the sign.
pub record Layout : Type 0 where
  pub exponent_bits : ℕ
  pub fraction_bits : ℕ

-- binary16, binary32 and binary64
abbrev pub half : Layout
half = record { exponent_bits = 5; fraction_bits = 10 }

abbrev pub single : Layout
single = record { exponent_bits = 8; fraction_bits = 23 }

abbrev pub double : Layout
double = record { exponent_bits = 11; fraction_bits = 52 }

-- the weight of the exponent's field, which is also that of the leading digit that a normal number does not write
abbrev pub leading : Layout → ℕ
leading f = 2 ^ f.fraction_bits

-- the weight of the sign
abbrev pub sign_weight : Layout → ℕ
sign_weight f = 2 ^ (f.exponent_bits + f.fraction_bits)

-- the exponent's field of an infinity or a NaN
abbrev pub all_ones : Layout → ℕ
all_ones f = 2 ^ f.exponent_bits - 1

abbrev pub bias : Layout → ℕ
bias f = 2 ^ (f.exponent_bits - 1) - 1

-- The smallest positive value of a format is 2 ^ (1 - bias - fraction_bits); it is 2 ^ `unit` in units of 2 ^ -1074:
-- 1050, 925 and 0 for the three.
abbrev pub unit : Layout → ℕ
unit f = 1075 - bias f - f.fraction_bits

-- ---- the fields of a pattern

abbrev pub negative : Layout → ℕ → Bool
negative f b = leb (sign_weight f) b

abbrev pub exponent : Layout → ℕ → ℕ
exponent f b = b % sign_weight f / leading f

abbrev pub fraction : Layout → ℕ → ℕ
fraction f b = b % leading f

-- ---- what a pattern means

-- The size of a finite number in a format's smallest values, from its fields. A field of 0 has no leading digit, and
-- counts as a field of 1. `p` is the number of fraction bits.
unfoldable pub smallests : ℕ → ℕ → ℕ → ℕ
smallests p zero t = t
smallests p (suc x) t = (2 ^ p + t) * 2 ^ x

-- the same in units of 2 ^ -1074
abbrev pub magnitude : Layout → ℕ → ℕ → ℕ
magnitude f e t = smallests f.fraction_bits e t * 2 ^ unit f

pub data Meaning : Type 0 where
  finite : (negative : Bool) (magnitude : ℕ) → Meaning
  infinite : (negative : Bool) → Meaning
  nan : (negative : Bool) (fraction : ℕ) → Meaning

unfoldable pub meaning : Layout → ℕ → Meaning
unfolding smallests
meaning f b =
    cond (eqb (exponent f b) (all_ones f))
    (cond (eqb (fraction f b) 0) (infinite (negative f b)) (nan (negative f b) (fraction f b)))
    (finite (negative f b) (magnitude f (exponent f b) (fraction f b)))

-- a meaning that is a number, infinities counted: no NaN
abbrev pub NotNan : Meaning → Type 0
NotNan (finite s m) = Unit {0}
NotNan (infinite s) = Unit {0}
NotNan (nan s t) = ⊥

-- q is a pattern of the format `to`, and has the sign and the magnitude that b has in the format `from`
abbrev pub SameValue : Layout → Layout → ℕ → ℕ → Type 0
SameValue from to b q = (q < 2 * sign_weight to) × NotNan (meaning from b) × (meaning to q ≡ meaning from b)
