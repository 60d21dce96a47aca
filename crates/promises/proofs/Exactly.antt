-- Exact reading succeeds exactly on the atoms that are whole and of a known form, from a budget of at least their
-- charge. What is whole and known is said over the bytes from the atom's place on, by `types.Forms`.
use Rattle.std.specs.Prelude.{Ok, Err}
use mathlib.Core.Path.{◌≡◌, refl, ◌∙◌, sym, ap}
use mathlib.Core.Bool.{Bool, true, false, false≢true}
use mathlib.Core.List.{List, []}
use Prim.Native.Nat.{ℕ, ◌+◌, ◌-◌, ◌≤◌}
use lib.Dec.{leb}
use lib.ListN.{length, drop}
use borrow.Author.Tests.{leb-true, leb-false}
use Rattle.types.proofs.Answers.{same_ok}
use Rattle.types.specs.Answers.{AtomAnswer}
use Rattle.types.specs.Counters.{places_of}
use Rattle.types.specs.Forms.{known, body_length, charge_of, is_string, unknown}
use Rattle.types.specs.declared.Way.TheVariants as W
use Rattle.types.specs.declared.Place.{Place}
use Rattle.types.specs.declared.Places.{Places}
use Rattle.types.specs.declared.Budget.{Budget}
use Rattle.types.specs.declared.Atom.{Atom}
use Rattle.header.specs.Header.{header_kind, header_argument, header_length}
use Rattle.atom.specs.Atoms.{atom_read}
use Rattle.dictionary.specs.Steps.{forgotten, skipped, body_past}
use Rattle.dictionary.proofs.Bodies.{past_whole, passed}
use Rattle.dictionary.proofs.Steps.{Past, step_cut, step_body}
use Rattle.dictionary.proofs.Forwards.{read_step}

-- the atom at a place is whole and known, and the budget holds its charge
pub record Whole (s : List ℕ) (at : ℕ) (budget : Budget) : Type 0 where
  pub header_there : at + header_length (drop at s) ≤ length s
  pub body_there : at + header_length (drop at s) + body_length (header_kind (drop at s)) (header_argument (drop at s))
      ≤ length s
  pub form_known : known (header_kind (drop at s)) (header_argument (drop at s)) ≡ true
  pub afforded : charge_of (header_kind (drop at s)) (header_argument (drop at s)) ≤ budget.0

-- a step that skipped it says so
module _ (s : List ℕ) (at : ℕ) (within : at ≤ length s) (budget : Budget) (place : Place) (rest : Budget)
    (places : Places) (string : Bool) where
  skipped_at : (v : Bool) → leb (at + header_length (drop at s)) (length s) ≡ v →
      Past s at budget place rest places string → Whole s at budget
  skipped_at false h e =
      let x = sym e.is ∙ step_cut s at within budget (leb-false (at + header_length (drop at s)) (length s) h) in
      absurd (false≢true cc)
  skipped_at true h e =
      let l = drop at s in
      let k = leb-true (at + header_length l) (length s) h in
      let p =
      passed (length s) at (at + header_length l) budget.0 (is_string (header_kind l))
      (body_length (header_kind l) (header_argument l)) (charge_of (header_kind l) (header_argument l))
      (unknown (header_kind l) (header_argument l)) place rest places string (known (header_kind l) (header_argument l))
      (sym (step_body s at within budget k) ∙ e.is)
      in
      record { header_there = k; body_there = p.is_whole; form_known = p.is_known; afforded = p.afforded }

-- ONLY IF: what exact reading takes is whole and known
pub taken_is_whole : (s : List ℕ) (at : ℕ) → at ≤ length s → (budget : Budget) (place : Place) (rest : Budget)
    (atom : Atom) → atom_read W.ExactLent s at budget [] ≡ Ok (place, rest, atom) → Whole s at budget
taken_is_whole s at within budget place rest atom e =
    skipped_at s at within budget place rest atom.places (is_string atom.kind)
    (leb (at + header_length (drop at s)) (length s)) refl (read_step s at budget place rest atom e)

-- an atom that is read, at the place just past it, with the budget less its charge; its places are its start, the end
-- of its header and the end of its body
pub record Taken (s : List ℕ) (at : ℕ) (budget : Budget) : Type 0 where
  pub atom : Atom
  pub is_read_back : atom_read W.ExactLent s at budget []
      ≡ Ok (
        record {
          0 = at + header_length (drop at s) + body_length (header_kind (drop at s))
              (header_argument (drop at s));
        },
        record {
          0 = budget.0 - charge_of (header_kind (drop at s))
              (header_argument (drop at s));
        },
        atom,
      )
  pub stands : atom.places
      ≡ places_of (record { 0 = at }) (record { 0 = at + header_length (drop at s) })
      (record {
        0 = at + header_length (drop at s) + body_length (header_kind (drop at s))
            (header_argument (drop at s));
      })

remembered : (place : Place) (rest : Budget) (places : Places) (string : Bool) (a : AtomAnswer) →
    forgotten a ≡ Ok (place, rest, places, string) →
    (x : Atom) × (a ≡ Ok (place, rest, x)) × (x.places ≡ places)
remembered place rest places string (Ok (p, b, y)) e =
    let parts = same_ok e in (
      y,
      ap (λ (x : Place × Budget × Places × Bool). Ok (x.0, x.1, y)) parts,
      ap (λ (x : Place × Budget × Places × Bool). x.2) parts,
    )
remembered place rest places string (Err (p, b, r)) e = absurd (false≢true cc)

-- IF: what is whole and known is taken
pub whole_is_taken : (s : List ℕ) (at : ℕ) → at ≤ length s → (budget : Budget) → Whole s at budget → Taken s at budget
unfolding skipped
whole_is_taken s at within budget w =
    let l = drop at s in
    let n = body_length (header_kind l) (header_argument l) in
    let c = charge_of (header_kind l) (header_argument l) in
    let step = step_body s at within budget w.header_there
    ∙ ap (λ (k : Bool). body_past (length s) at (at + header_length l) budget.0 (is_string (header_kind l)) n c k
    (unknown (header_kind l) (header_argument l))) w.form_known
    ∙ past_whole (length s) at (at + header_length l) budget.0 (is_string (header_kind l)) n c
    (unknown (header_kind l) (header_argument l)) w.afforded w.body_there in
    let r =
    remembered (record { 0 = at + header_length l + n }) (record { 0 = budget.0 - c })
    (places_of (record { 0 = at }) (record { 0 = at + header_length l }) (record { 0 = at + header_length l + n }))
    (is_string (header_kind l)) (atom_read W.ExactLent s at budget []) step
    in
    record { atom = r.0; is_read_back = r.1; stands = r.2 }
