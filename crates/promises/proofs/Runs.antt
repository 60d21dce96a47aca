-- Every file and every budget has a row of the run, and the row that fits is the answer, for demand 1.
use mathlib.Core.Path.{◌≡◌, refl, ◌∙◌, sym, ap, subst}
use mathlib.Core.Bool.{Bool, true, false}
use mathlib.Core.List.{List, [], ◌∷◌, ◌++◌, append_assoc, append-nil}
use mathlib.Core.Logic.{⊎_elim}
use Prim.Native.Nat.{ℕ, ◌+◌, ◌-◌, ◌≤◌, ◌<◌}
use native.Mathlib.Omega.{arith}
use lib.Dec.{ltb}
use lib.IntN.{pos}
use lib.ListN.{length, drop, length-append}
use lib.Seq.{drop-append_seam}
use borrow.Author.Tests.{ltb-true, ltb-false}
use Rattle.types.specs.Answers.{Ran}
use Rattle.types.specs.declared.Way.TheVariants as W
use Rattle.types.specs.declared.Refusal.{Refusal}
use Rattle.atom.specs.Atoms.{atom_read}
use Rattle.dictionary.specs.Runs.{run_all}
use Rattle.dictionary.specs.Wholes.{Atoms, total, price, last_places}
use Rattle.dictionary.specs.Prices.{asked, Barred, Made, Broken}
use Rattle.dictionary.proofs.Turns.{step_refused}
use Rattle.dictionary.proofs.Wholes.{Bars, barred_refuses, spoilt_bars, dear_bars}
use Rattle.dictionary.proofs.Price.{run_priced, run_barred, parted, passing_bars, passing_some, judged}
use Rattle.promises.specs.Told.{Told, refused, places_told, told_atom, told_ran}
use Rattle.promises.specs.Runs.{RunRow, done, stopped}

module _ (s : List ℕ) (budget : ℕ) where
  abbrev Answered : Type 0
  Answered = RunRow s budget (told_ran (run_all s (record { 0 = budget })))

  as_ran : (ran : Ran) → run_all s (record { 0 = budget }) ≡ ran → RunRow s budget (told_ran ran) → Answered
  as_ran ran e row = subst (λ (a : Ran). RunRow s budget (told_ran a)) (sym e) row

  -- atoms that the budget covers, and behind them one that is refused
  bars : (front rest : List ℕ) (atoms : List (List ℕ)) (why : Refusal) → s ≡ front ++ rest → 1 ≤ length rest →
      Atoms front atoms → total price atoms ≤ budget → Bars rest (budget - total price atoms) why → Answered
  bars front rest atoms why e some w c b =
      as_ran _ (run_barred s front rest atoms budget w e c why b.past b.charge some b.bars)
      (stopped e some w c b.bars)

  -- atoms that it does not cover: the first one that passes it is refused
  short : (front rest : List ℕ) (atoms : List (List ℕ)) → s ≡ front ++ rest → Atoms front atoms →
      budget < total price atoms → Answered
  short front rest atoms e w c =
      let p = parted w budget c in
      let there : s ≡ p.front ++ (p.passing.atom ++ (p.rest ++ rest)) =
      e ∙ ap (λ (l : List ℕ). l ++ rest) p.joined ∙ append_assoc p.front (p.passing.atom ++ p.rest) rest
      ∙ ap (λ (l : List ℕ). p.front ++ l) (append_assoc p.passing.atom p.rest rest)
      in
      bars p.front (p.passing.atom ++ (p.rest ++ rest)) p.passing.before _ there
      (passing_some front budget atoms p (p.rest ++ rest)) p.wholes p.passing.covered
      (record { past = _; charge = _; bars = passing_bars front budget atoms p (p.rest ++ rest) })

  made : (atoms : List (List ℕ)) → Atoms s atoms → (t : Bool) → ltb budget (total price atoms) ≡ t → Answered
  made atoms w true e = short s [] atoms (sym (append-nil s)) w (ltb-true budget (total price atoms) e)
  made atoms w false e =
      let c = ltb-false budget (total price atoms) e in
      as_ran _ (run_priced s atoms budget w c) (done w c)

  broken : (b : Broken s) (t u : Bool) → ltb budget (total price b.atoms) ≡ t →
      ltb (budget - total price b.atoms) (asked b.rest) ≡ u → Answered
  broken b true u e f =
      short b.front_bytes b.rest b.atoms b.joined b.wholes
      (ltb-true budget (total price b.atoms) e)
  broken b false true e f =
      bars b.front_bytes b.rest b.atoms _ b.joined b.some b.wholes
      (ltb-false budget (total price b.atoms) e)
      (dear_bars b.rest (budget - total price b.atoms)
      (ltb-true (budget - total price b.atoms) (asked b.rest) f))
  broken b false false e f =
      bars b.front_bytes b.rest b.atoms b.why b.joined b.some b.wholes
      (ltb-false budget (total price b.atoms) e)
      (spoilt_bars b.rest (budget - total price b.atoms) b.why b.spoilt
      (ltb-false (budget - total price b.atoms) (asked b.rest) f))

  pub every_run : Answered
  every_run =
      ⊎_elim (λ (m : Made s). made m.atoms m.wholes _ refl) (λ (b : Broken s). broken b _ _ refl refl)
      (judged s)

  pub one_run : {answer : Told} → RunRow s budget answer → answer ≡ told_ran (run_all s (record { 0 = budget }))
  one_run (done {atoms} w c) = ap told_ran (sym (run_priced s atoms budget w c))
  one_run (stopped {front} {rest} {atoms} {why} {past} {charge} e some w c b) =
      ap told_ran (sym (run_barred s front rest atoms budget w e c why past charge some b))

-- an atom that is refused with what is left of the budget, read by itself
pub barred_atom : (s front rest : List ℕ) (left : ℕ) {why : Refusal} {past charge : ℕ} →
    s ≡ front ++ rest →
    Barred rest left why past charge →
    told_atom (atom_read W.ExactLent s (length front) (record { 0 = left }) [])
    ≡ refused (pos (length front + past) ∷ pos (left - charge) ∷ []) why
barred_atom s front rest left e b =
    let there : drop (length front) s ≡ rest = ap (drop (length front)) e ∙ drop-append_seam front rest in
    let within : length front ≤ length s = omega (arith, ap length e ∙ length-append front rest) in
    ap told_atom
    (step_refused _ _ _ s (length front) (record { 0 = left })
    (barred_refuses s (length front) within rest there left b))

-- a broken file, with a budget that suffices for what is asked up to the atom that is not whole or not known
pub broken_run : (s : List ℕ) (b : Broken s) (budget : ℕ) → total price b.atoms + asked b.rest ≤ budget →
    (past : ℕ) × (charge : ℕ) × Barred b.rest (budget - total price b.atoms) b.why past charge
    × (told_ran (run_all s (record { 0 = budget }))
    ≡ refused
    (pos (length b.front_bytes + past) ∷ pos (budget - total price b.atoms - charge) ∷ pos (length b.atoms)
    ∷ places_told (last_places b.atoms) (pos (length b.front_bytes) ∷ [])) b.why)
broken_run s b budget enough =
    let c : total price b.atoms ≤ budget = omega arith in
    let r = spoilt_bars b.rest (budget - total price b.atoms) b.why b.spoilt (omega arith) in (
      r.past,
      r.charge,
      r.bars,
      ap told_ran
          (run_barred s b.front_bytes b.rest b.atoms budget b.wholes b.joined c b.why r.past
          r.charge b.some r.bars),
    )
