-- Every atom that is read carries its first place and the place after it. It rests on the definitions of `Atoms`, kind
-- by kind: each has the atom's places by `atom_taken`.
use Rattle.std.specs.Prelude.{Result, Ok, Err}
use mathlib.Core.Path.{◌≡◌, refl}
use mathlib.Core.Bool.{Bool, true, false}
use mathlib.Core.List.{List}
use Prim.Native.Nat.{ℕ}
use Rattle.types.specs.Answers.{AtomAnswer, BytesAnswer, FloatAnswer, HeaderAnswer, IntegerAnswer}
use Rattle.types.specs.Choice.{pick}
use Rattle.types.specs.Counters.{places_of}
use Rattle.types.specs.Forms.{known, body_length, charge_of, unknown}
use Rattle.types.specs.declared.Way.{Way}
use Rattle.types.specs.declared.Kind.{Kind}
use Rattle.types.specs.declared.Kind.TheVariants as K
use Rattle.types.specs.declared.Place.{Place}
use Rattle.types.specs.declared.Budget.{Budget}
use Rattle.types.specs.declared.Refusal.{Refusal}
use Rattle.header.specs.Header.{header_read}
use Rattle.reader.specs.Strings.{string_answer}
use Rattle.integer.specs.Integers.{integer_body}
use Rattle.float.specs.Floats.{float_body}
use Rattle.atom.specs.Charges.{budget_after}
use Rattle.atom.specs.Atoms.{integer_atom, float_atom, bytes_atom, body_taken, charged, judged, atom_from, atom_read}
use Rattle.atom.specs.Atoms.{first_place}

-- EVERY ATOM THAT IS READ CARRIES ITS FIRST PLACE AND THE PLACE AFTER IT
abbrev pub Placed : Place → AtomAnswer → Type 0
Placed first (Ok (after, rest, atom)) = atom.places ≡ places_of first atom.places.body after
Placed first (Err (after, rest, r)) = Unit {0}

module _ (way : Way) (s : List ℕ) (first next : Place) (arg : ℕ) (scratch : List ℕ) where
  integer_placed : (kind : Kind) (rest : Budget) (a : IntegerAnswer) →
      Placed first (integer_atom kind arg first next rest a)
  integer_placed kind rest (Ok (p, v)) = refl
  integer_placed kind rest (Err (p, r)) = tt

  float_placed : (rest : Budget) (a : FloatAnswer) → Placed first (float_atom arg first next rest a)
  float_placed rest (Ok (p, v, bits)) = refl
  float_placed rest (Err (p, r)) = tt

  bytes_placed : (rest : Budget) (a : BytesAnswer) → Placed first (bytes_atom arg first next rest a)
  bytes_placed rest (Ok (p, m)) = refl
  bytes_placed rest (Err (p, r)) = tt

  taken_placed : (kind : Kind) (rest : Budget) → Placed first (body_taken way s kind arg first next scratch rest)
  taken_placed K.Special rest = refl
  taken_placed K.Int rest = integer_placed K.Int rest (integer_body way s next.0 K.Int (body_length K.Int arg))
  taken_placed K.UInt rest = integer_placed K.UInt rest (integer_body way s next.0 K.UInt (body_length K.UInt arg))
  taken_placed K.Float rest = float_placed rest (float_body way s next.0 (body_length K.Float arg))
  taken_placed K.Sequence rest = refl
  taken_placed K.Map rest = refl
  taken_placed K.Symbol rest = refl
  taken_placed K.Bytes rest = bytes_placed rest (string_answer way s next.0 (body_length K.Bytes arg) scratch)

  charged_placed : (kind : Kind) (budget : Budget) (paid : Result Budget Refusal) (k : Bool) (r : Refusal) →
      Placed first
      (charged next budget paid
      (λ rest. pick k (body_taken way s kind arg first next scratch rest) (Err (next, rest, r))))
  charged_placed kind budget (Ok rest) true r = taken_placed kind rest
  charged_placed kind budget (Ok rest) false r = tt
  charged_placed kind budget (Err q) k r = tt

from_placed : (way : Way) (s : List ℕ) (first : Place) (budget : Budget) (scratch : List ℕ) (h : HeaderAnswer) →
    Placed first (atom_from way s first budget scratch h)
unfolding judged
from_placed way s first budget scratch (Ok (next, kind, arg)) =
    charged_placed way s first next arg scratch kind budget (budget_after budget (charge_of kind arg)) (known kind arg)
    (unknown kind arg)
from_placed way s first budget scratch (Err (p, r)) = tt

pub atom_placed : (way : Way) (s : List ℕ) (place : ℕ) (budget : Budget) (scratch : List ℕ) →
    Placed (first_place s place) (atom_read way s place budget scratch)
unfolding atom_read
atom_placed way s place budget scratch =
    from_placed way s (first_place s place) budget scratch (header_read way s place)
