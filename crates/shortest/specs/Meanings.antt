-- WHAT AN ATOM MEANS, over its bytes alone, with no reader. Document 02, K3: "The meaning of an atom is its kind and
-- value; for a float its signed value, or for a NaN its stored width and bits."
use Rattle.std.specs.Prelude.{ℕ, ◌<◌, ◌^◌, ◌≡◌, Bool, true, List, [], ◌∷◌, ℤ, length, drop, get_or}
use Rattle.types.specs.Kinds.{special_from, special_known}
use Rattle.types.specs.Forms.{sizes, count_of, allowed_count, allowed_float}
use Rattle.types.specs.declared.Kind.{Kind}
use Rattle.types.specs.declared.Kind.TheVariants as K
use Rattle.types.specs.declared.Special.{Special}
use Rattle.header.specs.Header.{header_kind, header_argument, header_length}
use Rattle.little.specs.Le.{from_le}
use Rattle.little.specs.Twos.{twos}
use Rattle.little.specs.Counts.{holds_u, holds_s}
use Rattle.binary.specs.Formats.{Meaning, finite, infinite, meaning}
use Rattle.binary.specs.Formats as Ieee
use Rattle.binary.specs.Conversions.{has}
use Rattle.float.specs.Floats.{layout_at}

-- a kind and its value: Int 5 is not UInt 5. Of a float "its signed value", a sign and a magnitude in units of 2^-1074,
-- so that -0 is not +0, or an infinity and its sign; "or for a NaN its stored width and bits", the width in bytes.
pub data Meant : Type 0 where
  special : Special → Meant
  int : ℤ → Meant
  uint : ℕ → Meant
  float : (negative : Bool) (magnitude : ℕ) → Meant
  infinity : (negative : Bool) → Meant
  nan : (width bits : ℕ) → Meant
  sequence : ℕ → Meant
  map : ℕ → Meant
  symbol : ℕ → Meant
  bytes : List ℕ → Meant

-- its kind
abbrev pub kind_of : Meant → Kind
kind_of (special s) = K.Special
kind_of (int z) = K.Int
kind_of (uint k) = K.UInt
kind_of (float s m) = K.Float
kind_of (infinity s) = K.Float
kind_of (nan width bits) = K.Float
kind_of (sequence n) = K.Sequence
kind_of (map n) = K.Map
kind_of (symbol n) = K.Symbol
kind_of (bytes l) = K.Bytes

-- a float of that many bytes that hold the bits, by what these mean in the format of that width
abbrev pub float_meant : ℕ → ℕ → Meaning → Meant
float_meant count bits (finite s m) = float s m
float_meant count bits (infinite s) = infinity s
float_meant count bits (Ieee.nan s t) = nan count bits

-- an atom of a kind and an argument, with that body
abbrev pub meant_by : Kind → ℕ → List ℕ → Meant
meant_by K.Special arg body = special (special_known (special_from arg))
meant_by K.Int arg body = int (twos (count_of arg) (from_le body))
meant_by K.UInt arg body = uint (from_le body)
meant_by K.Float arg body =
    float_meant (count_of arg) (from_le body) (meaning (layout_at (count_of arg)) (from_le body))
meant_by K.Sequence arg body = sequence arg
meant_by K.Map arg body = map arg
meant_by K.Symbol arg body = symbol arg
meant_by K.Bytes arg body = bytes body

-- THE MEANING OF AN ATOM
unfoldable pub meant : List ℕ → Meant
meant atom = meant_by (header_kind atom) (header_argument atom) (drop (header_length atom) atom)

-- and of a list of them: theirs, in their order
unfoldable pub meanings : List (List ℕ) → List Meant
meanings [] = []
meanings (atom ∷ atoms) = meant atom ∷ meanings atoms

-- bytes are numbers below 256
abbrev pub Bytes : List ℕ → Type 0
Bytes l = (i : ℕ) → get_or l i 0 < 256

-- A MEANING THAT AN ATOM CAN HAVE whose number takes that many bytes: the count is allowed and holds the value; a NaN's
-- bits are a NaN of its own width; an argument is a number of 64 bits
abbrev pub HeldBy : ℕ → Meant → Type 0
HeldBy count (special s) = Unit {0}
HeldBy count (int z) = (allowed_count count ≡ true) × (holds_s count z ≡ true)
HeldBy count (uint k) = (allowed_count count ≡ true) × (holds_u count k ≡ true)
HeldBy count (float s m) = (allowed_float count ≡ true) × (has (layout_at count) m ≡ true)
HeldBy count (infinity s) = allowed_float count ≡ true
HeldBy count (nan width bits) =
    (allowed_float width ≡ true) × (bits < 256 ^ width)
    × ((s : Bool) × (t : ℕ) × (meaning (layout_at width) bits ≡ Ieee.nan s t))
HeldBy count (sequence n) = n < sizes
HeldBy count (map n) = n < sizes
HeldBy count (symbol n) = n < sizes
HeldBy count (bytes l) = (length l < sizes) × Bytes l

-- one that some atom has
abbrev pub Proper : Meant → Type 0
Proper m = (count : ℕ) × HeldBy count m

-- a list of such
pub data AllProper : List Meant → Type 0 where
  none : AllProper []
  more : {m : Meant} {ms : List Meant} → Proper m → AllProper ms → AllProper (m ∷ ms)
