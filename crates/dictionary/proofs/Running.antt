-- The run's loop: what holds before each turn, what a turn keeps of it, and what the run answers at its ends.
use Rattle.std.specs.Prelude.{Ok, Err}
use mathlib.Core.Path.{◌≡◌, ◌∙◌, sym, ap}
use mathlib.Core.Bool.{Bool}
use mathlib.Core.List.{List}
use Prim.Native.Nat.{ℕ, ◌+◌, ◌≤◌, ◌<◌}
use native.Mathlib.Omega.{arith}
use borrow.Author.Rules.{rules}
use lib.ListN.{length}
use Rattle.dictionary.specs.Steps.{Step, past, short_past}
use Rattle.types.specs.Answers.{Ran, run_of}
use Rattle.types.specs.Counters.{no_places}
use Rattle.types.specs.declared.Place.{Place}
use Rattle.types.specs.declared.Places.{Places}
use Rattle.types.specs.declared.Budget.{Budget}
use Rattle.types.specs.declared.Refusal.{Refusal}
use Rattle.dictionary.specs.Steps.{stepped, short_step, last_of}
use Rattle.dictionary.specs.Runs.{run_from, run_all}
use Rattle.dictionary.proofs.Steps.{Past, past_last, told_refused, Told, told, by_step, step_less}
use Rattle.dictionary.proofs.Shorts.{by_first, short_less}
use Rattle.dictionary.proofs.Turns.{Walked, walk_begins, walk_on, walk_answers, run_on, run_stop, run_end}

-- what a run holds: what is left of the budget, how many atoms it read, and where the last of them stands
pub record Held : Type 0 where
  pub left : ℕ
  pub atoms : ℕ
  pub last : Places

abbrev pub holding : ℕ → ℕ → Places → Held
holding left atoms last = record { left = left; atoms = atoms; last = last }

-- so many atoms are read, the place is there, so much of the budget is left, and the rest of the run is the whole one's
abbrev pub running : ℕ → List ℕ → ℕ → Held → Ran
running fuel s at x = run_from fuel s at (record { 0 = x.left }) x.atoms x.last

abbrev pub Running : List ℕ → Budget → ℕ → ℕ → ℕ → Places → Type 0
Running s all atoms at left last = Walked running s (run_all s all) atoms at (holding left atoms last)

pub run_begins : (s : List ℕ) (all : Budget) → Running s all 0 0 all.0 no_places
run_begins s all = walk_begins running s (holding all.0 0 no_places)

-- an atom passed, by the step or by its first byte
abbrev Turns : List ℕ → Place → Budget → Place → Budget → Places → Bool → Type 0
Turns s at left place rest places t =
    (all : Budget) (atoms : ℕ) (last : Places) → Running s all atoms at.0 left.0 last →
    Running s all (atoms + 1) place.0 rest.0 (last_of s at place)

turns : (s : List ℕ) (at : Place) (left : Budget) (place : Place) (rest : Budget) (places : Places) (t : Bool) →
    at.0 < length s →
    Past s at.0 left place rest places t → Turns s at left place rest places t
turns s at left place rest places t h e all atoms last i =
    let stand = past_last s at.0 (omega arith) left place rest places t e in
    rw (← stand)
    (walk_on running s _ atoms at.0 _ i left place rest places t e (holding rest.0 (atoms + 1) places)
    (λ fuel later k. run_on s fuel later at.0 left atoms last k place rest places t h e))

pub short_turn : Told short_step short_past Turns
short_turn = told short_step short_past by_first Turns turns

pub turn : Told stepped past Turns
turn = told stepped past by_step Turns turns

module _ (s : List ℕ) (all : Budget) (atoms : ℕ) (at : Place) (left : Budget) (last : Places)
    (i : Running s all atoms at.0 left.0 last)
  where
    -- refused by the step
    pub stops : (r : Step) (places : Places) (place : Place) (rest : Budget) (why : Refusal) → places ≡ last →
        at.0 < length s → r ≡ stepped s at.0 left → r ≡ Err (place, rest, why) →
        Err (run_of place rest atoms places, why, at) ≡ run_all s all
    stops r places place rest why e h q p =
        ap (λ (x : Places). Err (run_of place rest atoms x, why, at)) e
        ∙ walk_answers running s _ atoms at.0 _ i _
        (λ fuel later k. run_stop s fuel later at.0 left atoms last k place rest why h
        (told_refused s at.0 left place rest why (sym q ∙ p)))

    -- the end of the file
    pub run_ends : (places : Places) → places ≡ last → length s ≤ at.0 → Ok (run_of at left atoms places) ≡ run_all s all
    run_ends places e h =
        ap (λ (x : Places). Ok (run_of at left atoms x)) e
        ∙ walk_answers running s _ atoms at.0 _ i _
        (λ fuel later k. run_end s fuel later at.0 left atoms last k h)

pub ruleset run_laws = (run_begins, short_turn, turn, short_less, step_less, stops, run_ends, rules)
