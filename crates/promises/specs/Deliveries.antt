-- Deliveries in shortest form. Document 02, K3: the rows of the check, what the values mean that our writers are given,
-- and what it is that an atom is written by one of them.
use Rattle.std.specs.Prelude.{ℕ, ◌≤◌, ◌≡◌, List, [], ◌∷◌, ◌++◌, pos, length}
use Rattle.std.specs.Float.{binary32, binary64}
use Rattle.std.specs.Float.Ieee.{to_bits}
use Rattle.types.specs.Values.{joined, joined_signed}
use Rattle.types.specs.declared.Refusal.{Refusal}
use Rattle.types.specs.declared.Integer.{Integer}
use Rattle.types.specs.declared.Integer.TheVariants as I
use Rattle.types.specs.declared.Kind.{Kind}
use Rattle.binary.specs.Formats.{single, double, meaning}
use Rattle.shortest.specs.Meanings.{Meant, Bytes, float_meant}
use Rattle.shortest.specs.Meanings as M
use Rattle.shortest.specs.Forms.{Accepted}
use Rattle.shortest.specs.Checks.{Unfit}
use Rattle.promises.specs.Told.{Told, told, refused}
use Rattle.promises.specs.Values.{Value, HeaderOnly, written}
use Rattle.promises.specs.Values as Given

-- THE ROWS OF THE CHECK: "yes exactly if each atom is whole and known" and in shortest form; "Refusals, each with the
-- start of its atom: 11 NotShortest, after 3, 4 and 6 of the same atom", behind atoms that are accepted
pub data CheckRow (s : List ℕ) : Told → Type 0 where
  accepted : {atoms : List (List ℕ)} → Accepted s atoms → CheckRow s (told 0 [])
  refused_at : {front rest : List ℕ} {atoms : List (List ℕ)} {why : Refusal} →
      s ≡ front ++ rest →
      1 ≤ length rest →
      Accepted front atoms →
      Unfit rest why →
      CheckRow s (refused (pos (length front) ∷ []) why)

-- what an integer means, in the kind of its variant
abbrev pub integer_meant : Integer → Meant
integer_meant (I.I8 z) = M.int z
integer_meant (I.I16 z) = M.int z
integer_meant (I.I32 z) = M.int z
integer_meant (I.I64 z) = M.int z
integer_meant (I.I128 w) = M.int (joined_signed w)
integer_meant (I.U8 k) = M.uint k
integer_meant (I.U16 k) = M.uint k
integer_meant (I.U32 k) = M.uint k
integer_meant (I.U64 k) = M.uint k
integer_meant (I.U128 w) = M.uint (joined w)

abbrev pub header_meant : (kind : Kind) → HeaderOnly kind → ℕ → Meant
header_meant kind Given.sequence arg = M.sequence arg
header_meant kind Given.map arg = M.map arg
header_meant kind Given.symbol arg = M.symbol arg

-- WHAT A VALUE MEANS that a writer is given
abbrev pub value_meant : Value → Meant
value_meant (Given.number z h) = M.int z
value_meant (Given.natural k h) = M.uint k
value_meant (Given.integer x h) = integer_meant x
value_meant (Given.f32_bits bits h) = float_meant 4 bits (meaning single bits)
value_meant (Given.f64_bits bits h) = float_meant 8 bits (meaning double bits)
value_meant (Given.f32 x h) = float_meant 4 (to_bits binary32 x) (meaning single (to_bits binary32 x))
value_meant (Given.f64 x h) = float_meant 8 (to_bits binary64 x) (meaning double (to_bits binary64 x))
value_meant (Given.special s) = M.special s
value_meant (Given.string l h) = M.bytes l
value_meant (Given.header kind w arg h) = header_meant kind w arg

-- the bytes of a string that is given are below 256
abbrev pub Storable : Value → Type 0
Storable (Given.number z h) = Unit {0}
Storable (Given.natural k h) = Unit {0}
Storable (Given.integer x h) = Unit {0}
Storable (Given.f32_bits bits h) = Unit {0}
Storable (Given.f64_bits bits h) = Unit {0}
Storable (Given.f32 x h) = Unit {0}
Storable (Given.f64 x h) = Unit {0}
Storable (Given.special s) = Unit {0}
Storable (Given.string l h) = Bytes l
Storable (Given.header kind w arg h) = Unit {0}

-- of a list of values: what is written of each, and what each means
unfoldable pub written_all : List Value → List (List ℕ)
written_all [] = []
written_all (v ∷ vs) = written v ∷ written_all vs

unfoldable pub meant_all : List Value → List Meant
meant_all [] = []
meant_all (v ∷ vs) = value_meant v ∷ meant_all vs

pub data AllStorable : List Value → Type 0 where
  none : AllStorable []
  more : {v : Value} {vs : List Value} → Storable v → AllStorable vs → AllStorable (v ∷ vs)

-- "but for a NaN of 2 bytes", which no writer writes
abbrev pub Writable : Meant → Type 0
Writable (M.special s) = Unit {0}
Writable (M.int z) = Unit {0}
Writable (M.uint k) = Unit {0}
Writable (M.float s m) = Unit {0}
Writable (M.infinity s) = Unit {0}
Writable (M.nan width bits) = width ≡ 2 → ⊥
Writable (M.sequence n) = Unit {0}
Writable (M.map n) = Unit {0}
Writable (M.symbol n) = Unit {0}
Writable (M.bytes l) = Unit {0}

pub data AllWritable : List Meant → Type 0 where
  none : AllWritable []
  more : {m : Meant} {ms : List Meant} → Writable m → AllWritable ms → AllWritable (m ∷ ms)
