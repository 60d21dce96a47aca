-- The answers that have a place, or more than one value, by name. Document 01, "Refusals by number": "Except where said,
-- a refusal returns its number and data only"; the place and the budget after a refusal stand in front of it.
use Rattle.std.specs.Prelude.{ℕ, Bool, Result}
use Rattle.types.specs.declared.Kind.{Kind}
use Rattle.types.specs.declared.Integer.{Integer}
use Rattle.types.specs.declared.Float.{Float}
use Rattle.types.specs.declared.Mark.{Mark}
use Rattle.types.specs.declared.Atom.{Atom}
use Rattle.types.specs.declared.Place.{Place}
use Rattle.types.specs.declared.Places.{Places}
use Rattle.types.specs.declared.Budget.{Budget}
use Rattle.types.specs.declared.Run.{Run}
use Rattle.types.specs.declared.Refusal.{Refusal}

-- what was read, behind the place after it; or the refusal, behind the place that is left
abbrev pub HeaderAnswer : Type 0
HeaderAnswer = Result (Place × Kind × ℕ) (Place × Refusal)

abbrev pub VersionAnswer : Type 0
VersionAnswer = Result (Place × ℕ) (Place × Refusal)

abbrev pub IntegerAnswer : Type 0
IntegerAnswer = Result (Place × Integer) (Place × Refusal)

-- the value, and the stored bits
abbrev pub FloatAnswer : Type 0
FloatAnswer = Result (Place × Float × ℕ) (Place × Refusal)

abbrev pub BytesAnswer : Type 0
BytesAnswer = Result (Place × Mark) (Place × Refusal)

abbrev pub RawAnswer : Type 0
RawAnswer = Result (Place × ℕ) (Place × Refusal)

-- with the budget that is left
abbrev pub AtomAnswer : Type 0
AtomAnswer = Result (Place × Budget × Atom) (Place × Budget × Refusal)

-- the atom's places, and whether it is a string
abbrev pub Skipped : Type 0
Skipped = Result (Place × Budget × Places × Bool) (Place × Budget × Refusal)

-- how far a run came
abbrev pub run_of : Place → Budget → ℕ → Places → Run
run_of place budget atoms last = record { place = place; budget = budget; atoms = atoms; last = last }

-- that; of a refused atom the refusal, and where it starts
abbrev pub Ran : Type 0
Ran = Result Run (Run × Refusal × Place)

abbrev pub Checked : Type 0
Checked = Result (Unit {0}) (Refusal × Place)
