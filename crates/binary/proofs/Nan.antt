-- The ends of the four functions between patterns and values, over the formats: a NaN's pattern, without its sign, is
-- above
-- the infinity's, and a NaN alone differs from itself.
use mathlib.Core.Path.{◌≡◌, refl, ◌∙◌, sym, ap}
use mathlib.Core.Bool.{true, false, not, false≢true}
use Prim.Native.Nat.{ℕ, ◌+◌, ◌*◌, ◌/◌, ◌%◌, ◌≤◌, ◌<◌}
use lib.Dec.{T}
use lib.Ieee.{Float, Format, binary32, binary64, nan, inf, fin, of_bits, to_bits, nan_bits, is_nan, eq, ne, div, top, ones}
use lib.Ieee.{hid}
use lib.Ieee.Bits.{nan_bits_is, nan_bits_above}
use lib.Ieee.Compare.{differs_from_itself}
use borrow.Author.Rules.{rules}
use borrow.Author.Tests.{le-ltb, lt-ltb}

pub low_no_nan : (f : Format) (b : ℕ) → b % top f ≤ ones f * hid f → T (not (nan_bits f b))
low_no_nan f b h = rw (nan_bits_above f b, le-ltb (ones f * hid f) (b % top f) h) tt

is_nan_lem : (x : Float) → is_nan x ≡ true → x ≡ nan
unfolding is_nan
is_nan_lem nan h = refl
is_nan_lem (inf s) h = absurd (false≢true h)
is_nan_lem (fin s m e) h = absurd (false≢true h)

none : (f : Format) → div f (of_bits f 0) (of_bits f 0) ≡ nan
unfolding div of_bits
none binary32 = refl
none binary64 = refl

-- zero by zero is the NaN, and so is the pattern
pub high_nan : (f : Format) (b : ℕ) → ones f * hid f < b % top f → div f (of_bits f 0) (of_bits f 0) ≡ of_bits f b
high_nan f b h =
    none f
    ∙ sym (is_nan_lem (of_bits f b) (sym (nan_bits_is f b) ∙ nan_bits_above f b ∙ lt-ltb (ones f * hid f) (b % top f) h))

pub self_no_nan : (x : Float) → eq x x ≡ true → T (not (is_nan x))
unfolding is_nan eq
self_no_nan nan h = absurd (false≢true h)
self_no_nan (inf s) h = tt
self_no_nan (fin s m e) h = tt

pub self_nan : (x : Float) → eq x x ≡ false → x ≡ nan
unfolding ne
self_nan x h = differs_from_itself x (rw h tt)

pub nan_pattern : (f : Format) (x : Float) (r : ℕ) → eq x x ≡ false → r ≡ ones f * hid f + hid f / 2 → r ≡ to_bits f x
unfolding to_bits
nan_pattern f x r h q = q ∙ sym (ap (to_bits f) (self_nan x h))

pub ruleset float_ends = (low_no_nan, high_nan, self_no_nan, nan_pattern, rules)
