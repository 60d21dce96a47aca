-- The step of a run: an atom read exactly, strings lent, and its value forgotten. Document 01, "Two ways of reading";
-- document 02, K1: it answers the same three places.
use Rattle.std.specs.Prelude.{ℕ, ◌+◌, ◌-◌, ◌/◌, Bool, true, List, [], ltb, leb, eqb, get_or, Ok, Err, Some, None, Result, Option}
use Rattle.types.specs.Answers.{AtomAnswer, HeaderAnswer, Skipped}
use Rattle.types.specs.Choice.{pick}
use Rattle.types.specs.Counters.{places_of}
use Rattle.types.specs.Forms.{known, body_length, charge_of, is_string, unknown}
use Rattle.types.specs.declared.Way.TheVariants as W
use Rattle.types.specs.declared.Kind.{Kind}
use Rattle.types.specs.declared.Place.{Place}
use Rattle.types.specs.declared.Places.{Places}
use Rattle.types.specs.declared.Budget.{Budget}
use Rattle.types.specs.declared.Refusal.{Refusal}
use Rattle.types.specs.declared.Refusal.TheVariants as R
use Rattle.header.specs.Header.{header_read}
use Rattle.atom.specs.Atoms.{atom_read}

-- an atom's read with the value forgotten: what is left is its places, and whether it is a string
abbrev pub forgotten : AtomAnswer → Skipped
forgotten (Ok (place, rest, atom)) = Ok (place, rest, atom.places, is_string atom.kind)
forgotten (Err (place, rest, r)) = Err (place, rest, r)

-- THE STEP: `read_atom` with the value forgotten
unfoldable pub skipped : List ℕ → ℕ → Budget → Skipped
skipped source place budget = forgotten (atom_read W.ExactLent source place budget [])

-- What a body does in a source of `size` bytes, of an atom that starts at `first`, where the body starts at `at` with
-- so much of the budget left: "budget, then count allowed, then end of input".
unfoldable pub body_past : ℕ → ℕ → ℕ → ℕ → Bool → ℕ → ℕ → Bool → Refusal → Skipped
body_past size first at left string len charge allowed why =
    pick (ltb left charge) (Err (record { 0 = at }, record { 0 = left }, R.TooManyBytesRead))
    (pick allowed
    (pick (leb (at + len) size)
    (Ok (record { 0 = at + len }, record { 0 = left - charge }, places_of (record { 0 = first }) (record { 0 = at }) (record { 0 = at + len }), string))
    (Err (record { 0 = size }, record { 0 = left - charge }, R.Eof)))
    (Err (record { 0 = at }, record { 0 = left - charge }, why)))

-- the same, by the kind and the argument of its header
abbrev pub body_after : ℕ → Kind → ℕ → ℕ → ℕ → ℕ → Skipped
body_after size kind arg first at left =
    body_past size first at left (is_string kind) (body_length kind arg) (charge_of kind arg) (known kind arg)
    (unknown kind arg)

-- The step as the run and the tally are told of it: of the places the start of the body alone. Of an atom that is
-- passed, the place after it, the budget left, that start, and whether it is a string.
abbrev pub Step : Type 0
Step = Result (Place × Budget × Place × Bool) (Place × Budget × Refusal)

abbrev pub past : Place → Budget → Place → Bool → Step
past place rest body string = Ok (place, rest, body, string)

abbrev pub lean : Skipped → Step
lean (Ok (place, rest, places, string)) = Ok (place, rest, places.body, string)
lean (Err (place, rest, r)) = Err (place, rest, r)

unfoldable pub stepped : List ℕ → ℕ → Budget → Step
stepped source place budget = lean (skipped source place budget)

-- what it is told of a body, which does not depend on where the atom starts
abbrev pub body_step : ℕ → ℕ → ℕ → Bool → ℕ → ℕ → Bool → Refusal → Step
body_step size at left string len charge allowed why = lean (body_past size at at left string len charge allowed why)

abbrev pub step_after : ℕ → Kind → ℕ → ℕ → ℕ → Step
step_after size kind arg at left = lean (body_after size kind arg at at left)

-- what a step tells of an atom that it goes past, and of no other
abbrev pub Short : Type 0
Short = Option (Place × Budget × Place × Bool)

abbrev pub short_past : Place → Budget → Place → Bool → Short
short_past place rest body string = Some (place, rest, body, string)

abbrev pub past_alone : Step → Short
past_alone (Ok (place, rest, body, string)) = Some (place, rest, body, string)
past_alone (Err (place, rest, r)) = None

-- the first bytes that are looked at: a UInt of one byte, a string or a sequence whose header is this byte alone
abbrev pub short_byte : ℕ → Bool
short_byte b = pick (eqb b 0x40) true (pick (eqb (b / 16) 14) true (eqb (b / 16) 8))

-- the step at such a byte
unfoldable pub short_step : List ℕ → ℕ → Budget → Short
short_step source at budget = pick (short_byte (get_or source at 0)) (past_alone (stepped source at budget)) None

-- the place that a header's read leaves, refused or not
abbrev pub header_end : HeaderAnswer → Place
header_end (Ok (next, kind, arg)) = next
header_end (Err (end, why)) = end

-- where the last atom stands that was read up to a place: from where it starts, past its header, to that place; all one
-- place if none was read
abbrev pub last_of : List ℕ → Place → Place → Places
last_of source first at =
    pick (eqb first.0 at.0) (places_of first first first)
    (places_of first (header_end (header_read W.ExactLent source first.0)) at)
