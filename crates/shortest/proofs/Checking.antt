-- The check's loop: what holds before each turn, what a turn keeps of it, and what the check answers at its ends. A
-- turn of the loop is a turn of the definition, over the step's own walk, `dictionary.Turns`.
use Rattle.std.specs.Prelude.{Ok, Err}
use mathlib.Core.Path.{◌≡◌, refl, ◌∙◌, sym, ap, subst}
use mathlib.Core.Bool.{Bool, true, false, false≢true}
use mathlib.Core.List.{List, ◌++◌}
use Prim.Native.Nat.{ℕ, suc, ◌+◌, ◌-◌, ◌≤◌, ◌<◌}
use native.Mathlib.Omega.{arith}
use borrow.Author.Rules.{rules}
use borrow.Author.Tests.{lt-ltb, le-ltb, leb-true, leb-false}
use lib.Dec.{leb}
use lib.ListN.{length, take, drop, length-drop, take-append-drop}
use lib.Seq.{length-take-le}
use Rattle.types.specs.Answers.{Checked, Skipped}
use Rattle.types.specs.declared.Place.{Place}
use Rattle.types.specs.declared.Places.{Places}
use Rattle.types.specs.declared.Budget.{Budget}
use Rattle.types.specs.declared.Refusal.{Refusal}
use Rattle.types.specs.declared.Refusal.TheVariants as R
use Rattle.header.specs.Header.{header_length}
use Rattle.dictionary.specs.Wholes.{body_bytes}
use Rattle.dictionary.specs.Steps.{skipped}
use Rattle.dictionary.specs.Runs.{unlimited}
use Rattle.dictionary.proofs.Bodies.{passed}
use Rattle.dictionary.proofs.Fronts.{front}
use Rattle.dictionary.proofs.Steps.{Past, forward, step_cut, step_body}
use Rattle.dictionary.proofs.Wholes.{price_word, atom_past}
use Rattle.dictionary.proofs.Price.{first_whole}
use Rattle.dictionary.proofs.Turns.{Walked, walk_begins, walk_on, walk_answers}
use Rattle.shortest.specs.Forms.{shortest}
use Rattle.shortest.specs.Checks.{between, check_from, check_all}
use Rattle.shortest.specs.Steps.{atom_at, Stands, Fine}

-- ---- what the step goes past stands there

module _ (s : List ℕ) (at : ℕ) (within : at ≤ length s) (budget : Budget) (place : Place) (rest : Budget)
    (places : Places) (t : Bool) (e : Past s at budget place rest places t)
  where
    stands_at : (v : Bool) → leb (at + header_length (drop at s)) (length s) ≡ v →
        (places.first.0 ≡ at) × (places.after.0 ≡ place.0) × Stands s places
    stands_at false h =
        let x = sym e.is ∙ step_cut s at within budget (leb-false (at + header_length (drop at s)) (length s) h) in
        absurd (false≢true cc)
    stands_at true h =
        let l : List ℕ = drop at s in
        let k = leb-true (at + header_length l) (length s) h in
        let x = sym (step_body s at within budget k) ∙ e.is in
        let p = passed _ _ _ _ _ _ _ _ place rest places t _ x in
        let q = p.stands in
        let room = p.is_whole in
        let first : places.first.0 ≡ at = ap (λ (y : Places). y.first.0) q in
        let body : places.body.0 ≡ at + header_length l = ap (λ (y : Places). y.body.0) q in
        let after : places.after.0 ≡ at + header_length l + body_bytes l = ap (λ (y : Places). y.after.0) q in
        let ends : place.0 ≡ at + header_length l + body_bytes l = p.ends in
        let n : ℕ = header_length l + body_bytes l in
        let size : n ≤ length l = omega (arith, length-drop at s) in
        let long = length-take-le n l size in
        let whole = first_whole l (take n l) (drop n l) (take-append-drop n l) long p.is_known in
        let span : places.after.0 - places.first.0 ≡ n = omega arith in
        let here : atom_at s places ≡ take n l =
        ap (λ (i : ℕ). take (places.after.0 - places.first.0) (drop i s)) first ∙ ap (λ (i : ℕ). take i l) span in
        let f = front (take n l) (drop n l) whole.its_header in
        let same : header_length l ≡ header_length (take n l) =
        ap header_length (sym (take-append-drop n l)) ∙ f.same_length in (
          first,
          after ∙ sym ends,
          record {
            whole = rw here whole;
            header = body ∙ ap (λ (i : ℕ). at + i) (same ∙ sym (ap header_length here))
                ∙ ap (λ (i : ℕ). i + header_length (atom_at s places)) (sym first);
            rises = omega arith;
            inside = omega arith;
          },
        )

    pub past_stands : (places.first.0 ≡ at) × (places.after.0 ≡ place.0) × Stands s places
    past_stands = stands_at (leb (at + header_length (drop at s)) (length s)) refl

-- ---- the turns of the definition

module _ (s : List ℕ) (fuel left at : ℕ) (enough : fuel ≡ suc left) where
  pub check_on : (place : Place) (rest : Budget) (places : Places) (t : Bool) → at < length s →
      Past s at (record { 0 = unlimited }) place rest places t → shortest (between s at place.0) ≡ true →
      check_from fuel s at ≡ check_from left s place.0
  unfolding check_from
  check_on place rest places t h e k = rw (enough, lt-ltb at (length s) h, e.is, k) refl

  pub check_longer : (place : Place) (rest : Budget) (places : Places) (t : Bool) → at < length s →
      Past s at (record { 0 = unlimited }) place rest places t → shortest (between s at place.0) ≡ false →
      check_from fuel s at ≡ Err (R.NotShortest, record { 0 = at })
  unfolding check_from
  check_longer place rest places t h e k = rw (enough, lt-ltb at (length s) h, e.is, k) refl

  pub check_stop : (place : Place) (rest : Budget) (why : Refusal) → at < length s →
      skipped s at (record { 0 = unlimited }) ≡ Err (place, rest, why) →
      check_from fuel s at ≡ Err (why, record { 0 = at })
  unfolding check_from
  check_stop place rest why h e = rw (enough, lt-ltb at (length s) h, e) refl

  pub check_end : length s ≤ at → check_from fuel s at ≡ (Ok tt)
  unfolding check_from
  check_end h = rw (enough, le-ltb at (length s) h) refl

-- ---- the loop

-- the check as a walk that holds nothing
abbrev pub checking : ℕ → List ℕ → ℕ → Unit {0} → Checked
checking fuel s at x = check_from fuel s at

-- so many atoms are accepted, the place is there, and the rest of the check is the whole one's
pub record Checking (s : List ℕ) (at : ℕ) : Type 0 where
  pub atoms : ℕ
  pub walked : Walked checking s (check_all s) atoms at tt

pub check_begins : (s : List ℕ) → Checking s 0
check_begins s = record { atoms = 0; walked = walk_begins checking s tt }

-- an accepted atom that stands at a place
accepted_on : (s : List ℕ) (at : ℕ) → at < length s → (end : ℕ) → Fine s at end → Checking s at → Checking s end
accepted_on s at h end f i =
    let n : ℕ = end - at in
    let a = f.rises in
    let b = f.inside in
    let here : drop at s ≡ between s at end ++ drop n (drop at s) = sym (take-append-drop n (drop at s)) in
    let size : length (between s at end) ≡ n = length-take-le n (drop at s) (omega (arith, length-drop at s)) in
    let to : at + length (between s at end) ≡ end = omega arith in
    let went = atom_past s at (omega arith) (between s at end) (drop n (drop at s)) here f.whole
    (record { 0 = unlimited }) (price_word (between s at end)) in
    subst (Checking s) to
    (record {
      atoms = i.atoms + 1;
      walked =
          walk_on checking s _ i.atoms at _ i.walked _ _ _ _ _ went tt
          (λ fuel later k. check_on s fuel later at k _ _ _ _ h went
          (ap (λ (x : ℕ). shortest (between s at x)) to ∙ f.in_form));
    })

module _ (s : List ℕ) (at : Place) (i : Checking s at.0) where
  -- the end of the list
  pub accepts : length s ≤ at.0 → (Ok tt) ≡ check_all s
  accepts h =
      walk_answers checking s _ i.atoms at.0 _ i.walked _
      (λ fuel later k. check_end s fuel later at.0 k h)

  -- an atom that was accepted by its first byte: the loop goes on behind it
  module _ (h : at.0 < length s) (end : ℕ) (f : Fine s at.0 end) where
    pub passes : Checking s end
    passes = accepted_on s at.0 h end f i

    pub falls_short : length s - end < length s - at.0
    falls_short = let a = f.rises in let b = f.inside in omega arith

  module _ (h : at.0 < length s) (r : Skipped) (q : r ≡ skipped s at.0 (record { 0 = unlimited })) where
    -- refused by the step
    pub refuses : (place : Place) (rest : Budget) (why : Refusal) → r ≡ Err (place, rest, why) →
        Err (why, at) ≡ check_all s
    refuses place rest why p =
        walk_answers checking s _ i.atoms at.0 _ i.walked _
        (λ fuel later k. check_stop s fuel later at.0 k place rest why h (sym q ∙ p))

    module _ (place : Place) (rest : Budget) (places : Places) (t : Bool) (p : r ≡ Ok (place, rest, places, t)) where
      went : Past s at.0 (record { 0 = unlimited }) place rest places t
      went = record { is = sym q ∙ p }

      stood : (places.first.0 ≡ at.0) × (places.after.0 ≡ place.0) × Stands s places
      stood = past_stands s at.0 (omega arith) _ place rest places t went

      -- it may be judged
      pub stands : Stands s places
      stands = stood.2

      its_bytes : atom_at s places ≡ between s at.0 place.0
      its_bytes = rw (stood.0, stood.1) refl

      -- in shortest form: the loop goes on behind it
      pub goes_on : (judged : Bool) → judged ≡ shortest (atom_at s places) → judged ≡ true → Checking s place.0
      goes_on judged j k = record {
        atoms = i.atoms + 1;
        walked =
            walk_on checking s _ i.atoms at.0 _ i.walked _ place rest places t went tt
            (λ fuel later n. check_on s fuel later at.0 n place rest places t h went
            (ap shortest (sym its_bytes) ∙ sym j ∙ k));
      }

      -- or not
      pub longer : (judged : Bool) → judged ≡ shortest (atom_at s places) → judged ≡ false →
          Err (R.NotShortest, at) ≡ check_all s
      longer judged j k =
          walk_answers checking s _ i.atoms at.0 _ i.walked _
          (λ fuel later n. check_longer s fuel later at.0 n place rest places t h went
          (ap shortest (sym its_bytes) ∙ sym j ∙ k))

      -- an atom takes a byte at least
      pub falls : length s - place.0 < length s - at.0
      falls =
          let f = forward s at.0 (omega arith) _ place rest places t went in
          let a = f.takes in
          let b = f.after in
          let c = f.inside in
          omega arith

pub ruleset check_laws = (check_begins, passes, falls_short, stands, goes_on, falls, longer, refuses, accepts, rules)
