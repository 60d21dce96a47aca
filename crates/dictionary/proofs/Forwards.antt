-- What exact reading takes, the step goes past: the same place, budget and places, with the value forgotten.
use Rattle.std.specs.Prelude.{Ok}
use mathlib.Core.Path.{◌≡◌, ap}
use mathlib.Core.List.{List, []}
use Prim.Native.Nat.{ℕ}
use Rattle.types.specs.Forms.{is_string}
use Rattle.types.specs.declared.Way.TheVariants as W
use Rattle.types.specs.declared.Place.{Place}
use Rattle.types.specs.declared.Budget.{Budget}
use Rattle.types.specs.declared.Atom.{Atom}
use Rattle.atom.specs.Atoms.{atom_read}
use Rattle.dictionary.specs.Steps.{forgotten, skipped}
use Rattle.dictionary.proofs.Steps.{Past}

pub read_step : (s : List ℕ) (at : ℕ) (budget : Budget) (place : Place) (rest : Budget) (atom : Atom) →
    atom_read W.ExactLent s at budget [] ≡ Ok (place, rest, atom) →
    Past s at budget place rest atom.places (is_string atom.kind)
unfolding skipped
read_step s at budget place rest atom e = record { is = ap forgotten e }
