-- FLOATS ARE THOSE OF IEEE 754: its sign and magnitude, its infinities and NaNs are `binary.Formats.meaning`, and the
-- entries answer by it.
use Rattle.std.specs.Prelude.{ℕ, ◌+◌, ◌-◌, ◌*◌, ◌%◌, ◌^◌, ◌≡◌, Bool, true, List, [], ◌∷◌, pos, length, Ok}
use Rattle.std.specs.Float.{Format}
use Rattle.std.specs.Float.Ieee.{of_bits}
use Rattle.types.specs.Counters.{place_in}
use Rattle.types.specs.Kinds.{kind_code}
use Rattle.types.specs.Forms.{allowed_float, count_of, charge_of}
use Rattle.types.specs.declared.Way.{Way}
use Rattle.types.specs.declared.Kind.TheVariants as K
use Rattle.types.specs.declared.Place.{Place}
use Rattle.types.specs.declared.Budget.{Budget}
use Rattle.types.specs.declared.Integer.{Integer}
use Rattle.header.specs.Header.{header_read}
use Rattle.reader.specs.Strings.{start_of}
use Rattle.little.specs.Le.{number_at}
use Rattle.binary.specs.Formats.{Layout, half, single, double, nan, meaning, NotNan, SameValue}
use Rattle.binary.specs.Conversions.{widened, narrowed}
use Rattle.binary.specs.Floats.{float_meaning, plain, layout_of}
use Rattle.float.specs.Floats.{float_read}
use Rattle.atom.specs.Atoms.{atom_read}
use Rattle.promises.specs.Told.{Told, told, places_told, told_float, told_atom, told_narrowed16, told_narrowed32}
use Rattle.promises.specs.Held.{float_held}
use Rattle.promises.specs.Rows.{Good, standing}
use Rattle.promises.specs.Entries.{There}
use Rattle.promises.specs.Casts.{WholeFloatRows}

-- narrowing answers the pattern of the narrower format that has the sign and the magnitude, or the infinity, if there
-- is one
pub record NarrowingRows (from to : Layout) (answer : ℕ → Told) : Type 0 where
  pub equal : (bits pattern : ℕ) →
      SameValue from to bits pattern →
      answer bits ≡ told 0 (pos pattern ∷ [])
  pub none_equal : (bits : ℕ) →
      ((pattern : ℕ) → SameValue from to bits pattern → ⊥) →
      answer bits ≡ told 0 []

pub record Ieee754 : Type 0 where
  -- the value of a pattern is what it means
  pub valued : (format : Format) (bits : ℕ) →
      float_meaning (of_bits format bits) ≡ plain (meaning (layout_of format) bits)
  -- a float that is read, by itself and as an atom, has the value that its stored bits mean
  pub number_read : (way : Way) (s : List ℕ) (place count : ℕ) →
      allowed_float count ≡ true →
      There way s (start_of s place + count) →
      told_float (float_read way s place K.Float count)
      ≡ told 0
      (pos (place_in (length s) (start_of s place + count)) ∷ pos (number_at count s (start_of s place))
      ∷ float_held count (number_at count s (start_of s place)))
  pub atom_read_row : (way : Way) (s : List ℕ) (place : ℕ) (budget : Budget) (scratch : List ℕ)
      (next : Place) (arg : ℕ) →
      header_read way s place ≡ Ok (next, K.Float, arg) →
      Good way s budget scratch next K.Float arg →
      told_atom (atom_read way s place budget scratch)
      ≡ told 0
      (pos (place_in (length s) (next.0 + count_of arg)) ∷ pos (budget.0 - charge_of K.Float arg)
      ∷ pos (kind_code K.Float) ∷ pos arg
      ∷ places_told (standing s place next K.Float arg)
      (pos 3 ∷ pos (number_at (count_of arg) s next.0)
      ∷ float_held (count_of arg) (number_at (count_of arg) s next.0)))
  -- widening keeps a number
  pub widens_half : (bits : ℕ) →
      NotNan (meaning half bits) →
      meaning single (widened half single bits) ≡ meaning half bits
  pub widens_single : (bits : ℕ) →
      NotNan (meaning single bits) →
      meaning double (widened single double bits) ≡ meaning single bits
  -- of a NaN, "sign kept, exponent all ones, quiet bit set, fraction shifted up by 13", "by 29"
  pub nan-half : (bits : ℕ) (s : Bool) (t : ℕ) →
      meaning half bits ≡ nan s t →
      meaning single (widened half single bits) ≡ nan s (2 ^ 22 + t * 2 ^ 13 % 2 ^ 22)
  pub nan-single : (bits : ℕ) (s : Bool) (t : ℕ) →
      meaning single bits ≡ nan s t →
      meaning double (widened single double bits) ≡ nan s (2 ^ 51 + t * 2 ^ 29 % 2 ^ 51)
  -- narrowing is exact
  pub narrows_single : NarrowingRows single half (λ bits. told_narrowed16 (narrowed single half bits))
  pub narrows_double : NarrowingRows double single (λ bits. told_narrowed32 (narrowed double single bits))
  -- an integer as a float is that number, in units of 2^-1074
  pub whole : (x : Integer) → WholeFloatRows x
