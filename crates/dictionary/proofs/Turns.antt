-- The turns of the run and of the tally, by what the step answers; and what holds before each turn of such a walk. The
-- run is defined over `read_atom`: the step's answer says what that was.
use Rattle.std.specs.Prelude.{Ok, Err}
use mathlib.Core.Path.{◌≡◌, refl, ◌∙◌, sym, ap}
use mathlib.Core.Bool.{Bool, false≢true}
use mathlib.Core.List.{List, []}
use Prim.Native.Nat.{ℕ, suc, ◌+◌, ◌-◌, ◌≤◌, ◌<◌}
use native.Mathlib.Omega.{arith}
use lib.ListN.{length}
use borrow.Author.Tests.{lt-ltb, le-ltb}
use Rattle.types.proofs.Answers.{same_ok}
use Rattle.types.specs.Answers.{AtomAnswer, run_of}
use Rattle.types.specs.declared.Way.TheVariants as W
use Rattle.types.specs.declared.Place.{Place}
use Rattle.types.specs.declared.Places.{Places}
use Rattle.types.specs.declared.Budget.{Budget}
use Rattle.types.specs.declared.Refusal.{Refusal}
use Rattle.types.specs.declared.Tallied.{Tallied}
use Rattle.types.specs.declared.TallyAnswer.TheVariants as TA
use Rattle.atom.specs.Atoms.{atom_read}
use Rattle.dictionary.specs.Steps.{forgotten, skipped}
use Rattle.dictionary.proofs.Steps.{Past, forward}
use Rattle.dictionary.specs.Runs.{after_atom, run_from, tally_from, added, unlimited}

-- what the forgotten value leaves of an atom's read: a refusal as it was
module _ (place : Place) (rest : Budget) (why : Refusal) where
  read_refused : (a : AtomAnswer) → forgotten a ≡ Err (place, rest, why) → a ≡ Err (place, rest, why)
  read_refused (Ok (p, b, y)) e = absurd (false≢true cc)
  read_refused (Err (p, b, r)) e = cc

  pub step_refused : (s : List ℕ) (at : ℕ) (budget : Budget) → skipped s at budget ≡ Err (place, rest, why) →
      atom_read W.ExactLent s at budget [] ≡ Err (place, rest, why)
  unfolding skipped
  step_refused s at budget e = read_refused (atom_read W.ExactLent s at budget []) e

-- and of one that was read where it ends, the budget left and its places
module _ {X : Type 0} (on : Place → Budget → Places → X) (stop : Place → Budget → Refusal → X) (place : Place)
    (rest : Budget)
  where
    read_past : (a : AtomAnswer) (places : Places) (t : Bool) → forgotten a ≡ Ok (place, rest, places, t) →
        after_atom a on stop ≡ on place rest places
    read_past (Ok (p, b, y)) places t e =
        ap (λ (x : Place × Budget × Places × Bool). on x.0 x.1 x.2) (same_ok e)
    read_past (Err (p, b, r)) places t e = absurd (false≢true cc)

    module _ (s : List ℕ) (at : ℕ) (budget : Budget) where
      atom_past : (places : Places) (t : Bool) → Past s at budget place rest places t →
          after_atom (atom_read W.ExactLent s at budget []) on stop ≡ on place rest places
      unfolding skipped
      atom_past places t e = read_past (atom_read W.ExactLent s at budget []) places t e.is

      atom_refused : (why : Refusal) → skipped s at budget ≡ Err (place, rest, why) →
          after_atom (atom_read W.ExactLent s at budget []) on stop ≡ stop place rest why
      atom_refused why e = ap (λ (a : AtomAnswer). after_atom a on stop) (step_refused place rest why s at budget e)

-- a turn of the run
module _ (s : List ℕ) (fuel left at : ℕ) (budget : Budget) (atoms : ℕ) (last : Places) (enough : fuel ≡ suc left)
  where
    pub run_on : (place : Place) (rest : Budget) (places : Places) (t : Bool) → at < length s →
        Past s at budget place rest places t →
        run_from fuel s at budget atoms last ≡ run_from left s place.0 rest (atoms + 1) places
    unfolding run_from
    run_on place rest places t h e =
        rw (enough, lt-ltb at (length s) h) (atom_past _ _ place rest s at budget places t e)

    pub run_stop : (place : Place) (rest : Budget) (why : Refusal) → at < length s →
        skipped s at budget ≡ Err (place, rest, why) →
        run_from fuel s at budget atoms last ≡ Err (run_of place rest atoms last, why, record { 0 = at })
    unfolding run_from
    run_stop place rest why h e = rw (enough, lt-ltb at (length s) h) (atom_refused _ _ place rest s at budget why e)

    pub run_end : length s ≤ at → run_from fuel s at budget atoms last ≡ Ok (run_of (record { 0 = at }) budget atoms last)
    unfolding run_from
    run_end h = rw (enough, le-ltb at (length s) h) refl

-- a turn of the tally
module _ (s : List ℕ) (fuel left at : ℕ) (t : Tallied) (last : Places) (enough : fuel ≡ suc left) where
  pub tally_on : (place : Place) (rest : Budget) (places : Places) (string : Bool) → at < length s →
      Past s at (record { 0 = unlimited }) place rest places string →
      tally_from fuel s at t last
      ≡ tally_from left s place.0 (added s t place.0 rest.0 places.body.0 string) places
  unfolding tally_from
  tally_on place rest places string h e = rw (enough, lt-ltb at (length s) h, e.is) refl

  pub tally_stop : (place : Place) (rest : Budget) (why : Refusal) → at < length s →
      skipped s at (record { 0 = unlimited }) ≡ Err (place, rest, why) →
      tally_from fuel s at t last ≡ TA.Stopped last why (record { 0 = at })
  unfolding tally_from
  tally_stop place rest why h e = rw (enough, lt-ltb at (length s) h, e) refl

  pub tally_end : length s ≤ at → tally_from fuel s at t last ≡ TA.Done last t
  unfolding tally_from
  tally_end h = rw (enough, le-ltb at (length s) h) refl

-- BEFORE EACH TURN of a walk over a file's atoms: so many are passed, the place is there, and the rest of the walk,
-- with what it holds by then, is the whole one's
pub record Walked {X Y : Type 0} (walk : ℕ → List ℕ → ℕ → X → Y) (s : List ℕ) (all : Y) (atoms at : ℕ) (x : X) : Type 0
  where
    pub within : at ≤ length s
    pub few : atoms ≤ at
    pub same : walk (suc (length s) - atoms) s at x ≡ all

module _ {X Y : Type 0} (walk : ℕ → List ℕ → ℕ → X → Y) (s : List ℕ) where
  pub walk_begins : (x : X) → Walked walk s (walk (suc (length s)) s 0 x) 0 0 x
  walk_begins x =
      let z : suc (length s) - 0 ≡ suc (length s) = omega arith in
      record { within = omega arith; few = omega arith; same = rw z refl }

  module _ (all : Y) (atoms at : ℕ) (x : X) (w : Walked walk s all atoms at x) where
    -- a turn goes on, past an atom
    pub walk_on : (budget : Budget) (place : Place) (rest : Budget) (places : Places) (t : Bool) →
        Past s at budget place rest places t → (y : X) →
        ((fuel left : ℕ) → fuel ≡ suc left → walk fuel s at x ≡ walk left s place.0 y) →
        Walked walk s all (atoms + 1) place.0 y
    walk_on budget place rest places t e y turn =
        let f = w.few in
        let g = forward s at w.within budget place rest places t e in
        record {
          within = g.inside;
          few = omega arith;
          same = sym (turn (suc (length s) - atoms) (suc (length s) - (atoms + 1)) (omega arith)) ∙ w.same;
        }

    -- or it answers
    pub walk_answers : (answer : Y) → ((fuel left : ℕ) → fuel ≡ suc left → walk fuel s at x ≡ answer) → answer ≡ all
    walk_answers answer turn =
        let f = w.few in
        let i = w.within in
        sym (turn (suc (length s) - atoms) (length s - atoms) (omega arith)) ∙ w.same
