-- What the value writers can be given, what their contracts say that they write of it, and what it is for an atom to
-- carry it. For demand 2: "what was written reads back as the value written".
use Rattle.std.specs.Prelude.{ℕ, ◌+◌, ◌-◌, ◌<◌, ◌^◌, ◌≡◌, Bool, true, List, ◌++◌, T, ℤ, pos, length, Ok}
use Rattle.std.specs.Float.Ieee as Ieee
use mir.Syntax.{Sign, signed, unsigned}
use Rattle.types.specs.Kinds.{special_code}
use Rattle.types.specs.declared.Way.{Way}
use Rattle.types.specs.declared.Kind.{Kind}
use Rattle.types.specs.declared.Kind.TheVariants as K
use Rattle.types.specs.declared.Special.{Special}
use Rattle.types.specs.declared.Mark.{Mark}
use Rattle.types.specs.declared.Integer.{Integer}
use Rattle.types.specs.declared.Float.{Float}
use Rattle.types.specs.declared.Float.TheVariants as F
use Rattle.types.specs.declared.Nucleus.TheVariants as N
use Rattle.types.specs.declared.Atom.{Atom}
use Rattle.types.specs.declared.Places.{Places}
use Rattle.types.specs.declared.Budget.{Budget}
use Rattle.header.specs.Header.{header_bytes}
use Rattle.reader.specs.Strings.{scratch_needed}
use Rattle.reader.specs.Parts.{marked_bytes}
use Rattle.little.specs.Counts.{holds_s}
use Rattle.types.specs.Values.{value}
use Rattle.cast.specs.Variants.{sign, width, in_range}
use Rattle.writers.specs.Bytes as Writers
use Rattle.binary.specs.Formats.{Layout, single, double, meaning, nan}
use Rattle.binary.specs.Floats.{plain}
use Rattle.float.specs.Bytes as Floats
use Rattle.float.specs.Values.{float_value, float_means}
use Rattle.atom.specs.Atoms.{atom_of, special_nucleus, atom_read, atom_scratch}
use Rattle.dictionary.specs.Wholes.{price, places_at}

-- "Sequence, Map and Symbol are their header only."
pub data HeaderOnly : Kind → Type 0 where
  sequence : HeaderOnly K.Sequence
  map : HeaderOnly K.Map
  symbol : HeaderOnly K.Symbol

-- a number that 16 bytes hold, signed or not; an integer whose variant holds its value; a pattern of binary32 or of
-- binary64; a value of either; a special; a string; a header alone
pub data Value : Type 0 where
  number : (z : ℤ) → holds_s 16 z ≡ true → Value
  natural : (k : ℕ) → k < 256 ^ 16 → Value
  integer : (x : Integer) → in_range (sign x) (width x) (value x) ≡ true → Value
  f32_bits : (bits : ℕ) → bits < 256 ^ 4 → Value
  f64_bits : (bits : ℕ) → bits < 256 ^ 8 → Value
  f32 : (x : Ieee.Float) → T (Ieee.fits Ieee.binary32 x) → Value
  f64 : (x : Ieee.Float) → T (Ieee.fits Ieee.binary64 x) → Value
  special : Special → Value
  string : (bytes : List ℕ) → length bytes < 2 ^ 64 → Value
  header : (kind : Kind) → HeaderOnly kind → (arg : ℕ) → arg < 2 ^ 64 → Value

-- what is written of it, by the definitions that the writers' contracts cite; the bytes of a float's value are those of
-- its pattern, by which `write_f32` and `write_f64` say them
abbrev pub written : Value → List ℕ
written (number z h) = Writers.signed_bytes z
written (natural k h) = Writers.unsigned_bytes k
written (integer x h) = Writers.value_bytes x
written (f32_bits bits h) = Floats.f32_bytes bits
written (f64_bits bits h) = Floats.f64_bytes bits
written (f32 x h) = Floats.value_bytes (F.F32 x)
written (f64 x h) = Floats.value_bytes (F.F64 x)
written (special s) = Writers.special_bytes s
written (string bytes h) = Writers.bytes_bytes bytes
written (header kind w arg h) = header_bytes kind arg

-- the scratch that it takes to read it
abbrev pub room_for : Way → Value → ℕ
room_for way (number z h) = 0
room_for way (natural k h) = 0
room_for way (integer x h) = 0
room_for way (f32_bits bits h) = 0
room_for way (f64_bits bits h) = 0
room_for way (f32 x h) = 0
room_for way (f64 x h) = 0
room_for way (special s) = 0
room_for way (string bytes h) = scratch_needed way (length bytes)
room_for way (header kind w arg h) = 0

-- the kind of an integer's variant
abbrev pub kind_of : Sign → Kind
kind_of signed = K.Int
kind_of unsigned = K.UInt

-- a float, and the bits stored beside it, that mean what a pattern means; a NaN's are its own
pub record Means (layout : Layout) (bits : ℕ) (x : Float) (stored : ℕ) : Type 0 where
  pub same_meaning : float_means x ≡ plain (meaning layout bits)
  pub nan_kept : (s : Bool) (t : ℕ) → meaning layout bits ≡ nan s t → stored ≡ bits

-- An atom of the kind that was written carries the value: an integer its number; a float the meaning of the pattern, or
-- the value; a string's mark names its bytes, in the source or in the scratch; a special and a header are the atom
-- itself. Where the atom stands, `ReadBack` says.
pub data Carries (source scratch : List ℕ) : Atom → Value → Type 0 where
  number_carried : {arg : ℕ} {places : Places} {n : Integer} {z : ℤ} {h : holds_s 16 z ≡ true} →
      value n ≡ z →
      Carries source scratch (atom_of K.Int arg places (N.Integer n)) (number z h)
  natural_carried : {arg : ℕ} {places : Places} {n : Integer} {k : ℕ} {h : k < 256 ^ 16} →
      value n ≡ pos k →
      Carries source scratch (atom_of K.UInt arg places (N.Integer n)) (natural k h)
  integer_carried : {arg : ℕ} {places : Places} {n x : Integer}
      {h : in_range (sign x) (width x) (value x) ≡ true} →
      value n ≡ value x →
      Carries source scratch (atom_of (kind_of (sign x)) arg places (N.Integer n)) (integer x h)
  f32_bits_carried : {arg : ℕ} {places : Places} {x : Float} {stored bits : ℕ} {h : bits < 256 ^ 4} →
      Means single bits x stored →
      Carries source scratch (atom_of K.Float arg places (N.Float x stored)) (f32_bits bits h)
  f64_bits_carried : {arg : ℕ} {places : Places} {x : Float} {stored bits : ℕ} {h : bits < 256 ^ 8} →
      Means double bits x stored →
      Carries source scratch (atom_of K.Float arg places (N.Float x stored)) (f64_bits bits h)
  f32_carried : {arg : ℕ} {places : Places} {y : Float} {stored : ℕ} {x : Ieee.Float}
      {h : T (Ieee.fits Ieee.binary32 x)} →
      float_value y ≡ x →
      Carries source scratch (atom_of K.Float arg places (N.Float y stored)) (f32 x h)
  f64_carried : {arg : ℕ} {places : Places} {y : Float} {stored : ℕ} {x : Ieee.Float}
      {h : T (Ieee.fits Ieee.binary64 x)} →
      float_value y ≡ x →
      Carries source scratch (atom_of K.Float arg places (N.Float y stored)) (f64 x h)
  special_carried : {places : Places} {s : Special} →
      Carries source scratch (atom_of K.Special (special_code s) places (special_nucleus s)) (special s)
  string_carried : {places : Places} {mark : Mark} {bytes : List ℕ} {h : length bytes < 2 ^ 64} →
      marked_bytes mark source scratch ≡ bytes →
      Carries source scratch (atom_of K.Bytes (length bytes) places (N.Bytes mark)) (string bytes h)
  header_carried : {kind : Kind} {w : HeaderOnly kind} {arg : ℕ} {places : Places} {h : arg < 2 ^ 64} →
      Carries source scratch (atom_of kind arg places N.None) (header kind w arg h)

-- the source, with anything before and after what was written
abbrev pub around : List ℕ → List ℕ → Value → List ℕ
around before after value = before ++ (written value ++ after)

-- WHAT WAS WRITTEN READS BACK: just past it, for its price, an atom that stands where it was written, first, past its
-- header and past all of it, and that carries the value
pub record ReadBack (way : Way) (before after : List ℕ) (budget : Budget) (scratch : List ℕ)
    (value : Value) : Type 0
  where
    pub atom : Atom
    pub is_read_back :
        atom_read way (around before after value) (length before) budget scratch
        ≡ Ok (
          record { 0 = length before + length (written value) },
          record { 0 = budget.0 - price (written value) },
          atom,
        )
    pub stands : atom.places ≡ places_at (length before) (written value)
    pub carries :
        Carries (around before after value)
        (atom_scratch way (around before after value) (length before) budget scratch) atom value
