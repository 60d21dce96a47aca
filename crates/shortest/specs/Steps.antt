-- What the steps of the check do: for the contracts of private functions alone. An atom that the step has passed, by
-- its places, and what is judged of it.
use Rattle.std.specs.Prelude.{ℕ, ◌+◌, ◌/◌, ◌%◌, ◌≤◌, ◌<◌, ◌≡◌, true, List, eqb, length, Option, Some, None}
use Rattle.types.specs.Choice.{pick}
use Rattle.types.specs.declared.Places.{Places}
use Rattle.header.specs.Header.{header_length}
use Rattle.dictionary.specs.Wholes.{IsAtom}
use Rattle.little.specs.Le.{number_at}
use Rattle.binary.specs.Formats.{meaning}
use Rattle.float.specs.Floats.{layout_at}
use Rattle.shortest.specs.Meanings.{Meant, float_meant}
use Rattle.shortest.specs.Forms.{shortest}
use Rattle.shortest.specs.Checks.{between}

-- its bytes
abbrev pub atom_at : List ℕ → Places → List ℕ
atom_at s places = between s places.first.0 places.after.0

-- it stands there: whole and known, its body behind its header
pub record Stands (s : List ℕ) (places : Places) : Type 0 where
  pub whole : IsAtom (atom_at s places)
  pub header : places.body.0 ≡ places.first.0 + header_length (atom_at s places)
  pub rises : places.first.0 ≤ places.after.0
  pub inside : places.after.0 ≤ length s

-- a float read at a place: what it means, of that many bytes there
abbrev pub float_at : ℕ → List ℕ → ℕ → Meant
float_at count s at =
    float_meant count (number_at count s at) (meaning (layout_at count) (number_at count s at))

-- the body bytes of an atom whose header is this byte alone, and which takes the fewest bytes whatever they hold: a
-- UInt of one byte, a string, a sequence; of any other nothing
abbrev pub short_body : ℕ → Option ℕ
short_body b =
    pick (eqb b 0x40) (Some 1) (pick (eqb (b / 16) 14) (Some (b % 16)) (pick (eqb (b / 16) 8) (Some 0) None))

-- an atom that is accepted, from one place to another
pub record Fine (s : List ℕ) (at after : ℕ) : Type 0 where
  pub whole : IsAtom (between s at after)
  pub in_form : shortest (between s at after) ≡ true
  pub rises : at < after
  pub inside : after ≤ length s
