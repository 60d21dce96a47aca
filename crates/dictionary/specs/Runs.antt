-- The run and the tally. Document 01, "Two ways of reading" and "Tally"; document 02, K1: "The run and the tally,
-- refused or not, answer the three places of the last atom they read, all 0 if there was none."
use Rattle.std.specs.Prelude.{ℕ, zero, suc, ◌+◌, ◌-◌, Bool, List, [], ltb, length, take, drop, Ok, Err}
use Rattle.types.specs.Answers.{AtomAnswer, Ran, Skipped, run_of}
use Rattle.types.specs.Choice.{pick}
use Rattle.types.specs.Counters.{no_places}
use Rattle.types.specs.declared.Way.TheVariants as W
use Rattle.types.specs.declared.Place.{Place}
use Rattle.types.specs.declared.Places.{Places}
use Rattle.types.specs.declared.Budget.{Budget}
use Rattle.types.specs.declared.Refusal.{Refusal}
use Rattle.types.specs.declared.Refusal.TheVariants as R
use Rattle.types.specs.declared.Tallied.{Tallied}
use Rattle.types.specs.declared.TallyAnswer.{TallyAnswer}
use Rattle.types.specs.declared.TallyAnswer.TheVariants as TA
use Rattle.atom.specs.Atoms.{atom_read}
use Rattle.letters.specs.Letters.{letters}
use Rattle.dictionary.specs.Steps.{skipped}

-- what follows an atom that was read, at the place after it with the budget left and its places; what follows one that
-- was refused
abbrev pub after_atom : {X : Type 0} →
    AtomAnswer → (Place → Budget → Places → X) → (Place → Budget → Refusal → X) → X
after_atom (Ok (place, rest, atom)) on stop = on place rest atom.places
after_atom (Err (place, rest, r)) on stop = stop place rest r

-- "until the place is the end of the slice or an atom is refused": on from a place, with so many atoms read, the last
-- of them there; at most `fuel` atoms
unfoldable pub run_from : ℕ → List ℕ → ℕ → Budget → ℕ → Places → Ran
run_from zero s at budget atoms last = Ok (run_of (record { 0 = at }) budget atoms last)
run_from (suc fuel) s at budget atoms last =
    pick (ltb at (length s))
    (after_atom (atom_read W.ExactLent s at budget [])
    (λ place rest places. run_from fuel s place.0 rest (atoms + 1) places)
    (λ place rest r. Err (run_of place rest atoms last, r, record { 0 = at })))
    (Ok (run_of (record { 0 = at }) budget atoms last))

-- THE RUN: "reads exactly, strings lent, from place 0". An atom takes a byte at least, so that there are no more atoms
-- than bytes
abbrev pub run_all : List ℕ → Budget → Ran
run_all s budget = run_from (suc (length s)) s 0 budget 0 no_places

-- "without a budget": the largest there is, for each atom anew, so that no charge exceeds it
abbrev pub unlimited : ℕ
unlimited = 0xFFFF_FFFF_FFFF_FFFF

-- what a step tells of an atom that was skipped, and of one that was refused
abbrev pub after_step : {X : Type 0} →
    Skipped → (Place → Budget → Places → Bool → X) → (Refusal → X) → X
after_step (Ok (place, rest, places, string)) on stop = on place rest places string
after_step (Err (place, rest, r)) on stop = stop r

-- what a tally counts: atoms, body bytes, charge, letters
abbrev pub tallied : ℕ → ℕ → ℕ → ℕ → Tallied
tallied atoms body charge letters =
    record { atoms = atoms; body = record { 0 = body }; charge = charge; letters = letters }

-- an atom more: its body bytes, what it took of the budget, and the letters of its string; that the second sums to
-- document 01's charges, over a definition that knows no reader, is `Price.tally_priced`
abbrev pub added : List ℕ → Tallied → ℕ → ℕ → ℕ → Bool → Tallied
added s t place rest body string =
    tallied (t.atoms + 1) (t.body.0 + (place - body)) (t.charge + (unlimited - rest))
    (t.letters + pick string (letters (take (place - body) (drop body s))) 0)

-- "fails at the first bad atom with 3, 4 or 6 and the place where that atom starts": on from a place, with the last
-- atom there; at most `fuel` atoms
unfoldable pub tally_from : ℕ → List ℕ → ℕ → Tallied → Places → TallyAnswer
tally_from zero s at t last = TA.Done last t
tally_from (suc fuel) s at t last =
    pick (ltb at (length s))
    (after_step (skipped s at (record { 0 = unlimited }))
    (λ place rest places string.
    tally_from fuel s place.0 (added s t place.0 rest.0 places.body.0 string) places)
    (λ r. TA.Stopped last r (record { 0 = at })))
    (TA.Done last t)

-- nothing counted yet
abbrev pub nothing : Tallied
nothing = tallied 0 0 0 0

-- "10 TooLong: tally input over 16,777,216 bytes", and the place after it: "none"; no atom was read
abbrev pub most_bytes : ℕ
most_bytes = 16_777_216

-- THE TALLY: "judges its length first, then applies exact reading without a budget"
abbrev pub tally_all : List ℕ → TallyAnswer
tally_all s =
    pick (ltb most_bytes (length s)) (TA.Refused no_places R.TooLong)
    (tally_from (suc (length s)) s 0 nothing no_places)
