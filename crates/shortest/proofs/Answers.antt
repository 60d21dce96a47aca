-- WHAT THE CHECK ANSWERS, of every list: an accepted one is accepted, every other one is refused at its first atom that
-- is refused, with that one's refusal. Over bytes alone; what the step does at an atom is `dictionary.Wholes`.
use Rattle.std.specs.Prelude.{Ok, Err}
use mathlib.Core.Path.{◌≡◌, refl, ◌∙◌, sym, ap, subst}
use mathlib.Core.Bool.{Bool, true, false, false≢true}
use mathlib.Core.List.{List, [], ◌∷◌, ◌++◌, append_assoc, append-nil}
use mathlib.Core.Logic.{◌⊎◌, inl, inr, ⊎_elim}
use Prim.Native.Nat.{ℕ, suc, ◌+◌, ◌-◌, ◌≤◌}
use native.Mathlib.Omega.{arith}
use lib.ListN.{length, take, drop, length-append}
use lib.Seq.{drop-append_seam, take_at}
use Rattle.types.specs.declared.Refusal.{Refusal}
use Rattle.types.specs.declared.Refusal.TheVariants as R
use Rattle.dictionary.specs.Wholes.{IsAtom, Atoms}
use Rattle.dictionary.specs.Wholes as Wholes
use Rattle.dictionary.specs.Prices.{Made, Broken}
use Rattle.dictionary.specs.Runs.{unlimited}
use Rattle.dictionary.proofs.Wholes.{price_word, atom_some, atom_within, atom_next, atom_past, barred_refuses, spoilt_bars, asked_word}
use Rattle.dictionary.proofs.Price as Price
use Rattle.shortest.specs.Forms.{shortest, all_shortest, Accepted}
use Rattle.shortest.specs.Checks.{between, check_from, check_all, Unfit, Refused}
use Rattle.shortest.specs.Checks as Checks
use Rattle.shortest.proofs.Checking.{check_on, check_longer, check_stop, check_end}
use Rattle.shortest.proofs.Lists.{split_shortest, join_shortest}

-- ---- over accepted atoms

-- the bytes of an atom that stands at a place
here_bytes : (s : List ℕ) (at : ℕ) (atom after : List ℕ) → drop at s ≡ atom ++ after →
    between s at (at + length atom) ≡ atom
here_bytes s at atom after here =
    let n : at + length atom - at ≡ length atom = omega arith in
    ap (λ (k : ℕ). take k (drop at s)) n ∙ ap (take (length atom)) here ∙ take_at atom after (length atom) refl

check_over : (s : List ℕ) {l : List ℕ} {atoms : List (List ℕ)} → Atoms l atoms → all_shortest atoms ≡ true →
    (after : List ℕ) (fuel left at end : ℕ) → fuel ≡ length atoms + left → end ≡ at + length l → at ≤ length s →
    drop at s ≡ l ++ after → check_from fuel s at ≡ check_from left s end
check_over s Wholes.none ok after fuel left at end f e within here =
    let a : fuel ≡ left = omega arith in
    let b : at ≡ end = omega arith in
    ap (λ (n : ℕ). check_from n s at) a ∙ ap (check_from left s) b
check_over s (Wholes.more {atom} {rest} {atoms} w r) ok after fuel left at end f e within here =
    let there : drop at s ≡ atom ++ (rest ++ after) = here ∙ append_assoc atom rest after in
    let inside = atom_within s at within atom (rest ++ after) there w in
    let one = atom_some atom w in
    let both = split_shortest atom atoms ok in
    let n : end ≡ at + length atom + length rest = omega (arith, length-append atom rest) in
    check_on s fuel (length atoms + left) at (omega arith) _ _ _ _ (omega arith)
    (atom_past s at within atom (rest ++ after) there w (record { 0 = unlimited }) (price_word atom))
    (ap shortest (here_bytes s at atom (rest ++ after) there) ∙ both.0)
    ∙ check_over s r both.1 after (length atoms + left) left (at + length atom) end refl n inside
    (atom_next s at within atom (rest ++ after) there w)

-- ACCEPTED
pub accepted_answer : (s : List ℕ) (atoms : List (List ℕ)) → Accepted s atoms → check_all s ≡ (Ok tt)
accepted_answer s atoms a =
    let most = Price.atoms_most a.wholes in
    let e : length s ≡ 0 + length s = omega arith in
    check_over s a.wholes a.in_form [] (suc (length s)) (suc (length s - length atoms)) 0 (length s) (omega arith) e
    (omega arith) (sym (append-nil s))
    ∙ check_end s (suc (length s - length atoms)) (length s - length atoms) (length s) refl (omega arith)

-- REFUSED at the atom behind those that are accepted
module _ (s front rest : List ℕ) (atoms : List (List ℕ)) (a : Accepted front atoms) (e : s ≡ front ++ rest)
    (some : 1 ≤ length rest)
  where
    size : length s ≡ length front + length rest
    size = ap length e ∙ length-append front rest

    there : drop (length front) s ≡ rest
    there = ap (drop (length front)) e ∙ drop-append_seam front rest

    within : length front ≤ length s
    within = omega (arith, size)

    up_to : check_all s ≡ check_from (suc (length s - length atoms)) s (length front)
    up_to =
        let most = Price.atoms_most a.wholes in
        let n = size in
        let end : length front ≡ 0 + length front = omega arith in
        check_over s a.wholes a.in_form rest (suc (length s)) (suc (length s - length atoms)) 0 (length front)
        (omega arith) end (omega arith) e

    stopped : (why : Refusal) → Unfit rest why →
        check_from (suc (length s - length atoms)) s (length front) ≡ Err (why, record { 0 = length front })
    stopped why (Checks.spoilt bad) =
        let r = spoilt_bars rest unlimited why bad (asked_word rest) in
        let n = size in
        check_stop s (suc (length s - length atoms)) (length s - length atoms) (length front) refl _ _ why (omega arith)
        (barred_refuses s (length front) within rest there unlimited r.bars)
    stopped why (Checks.longer atom later split w long) =
        let n = size in
        let here : drop (length front) s ≡ atom ++ later = there ∙ split in
        check_longer s (suc (length s - length atoms)) (length s - length atoms) (length front) refl _ _ _ _ (omega arith)
        (atom_past s (length front) within atom later here w (record { 0 = unlimited }) (price_word atom))
        (ap shortest (here_bytes s (length front) atom later here) ∙ long)

    pub refused_at : (why : Refusal) → Unfit rest why → check_all s ≡ Err (why, record { 0 = length front })
    refused_at why bad = up_to ∙ stopped why bad

pub refused_answer : (s : List ℕ) (r : Refused s) →
    check_all s ≡ Err (r.why, record { 0 = length r.front_bytes })
refused_answer s r =
    refused_at s r.front_bytes r.rest r.atoms r.accepted r.joined r.some r.why r.unfit

-- ---- every list is one or the other

no_atoms : all_shortest [] ≡ true
unfolding all_shortest
no_atoms = refl

-- one that starts with an atom that is refused
refused_first : (s : List ℕ) (why : Refusal) → 1 ≤ length s → Unfit s why → Refused s
refused_first s why some bad = record {
  front_bytes = [];
  rest = s;
  atoms = [];
  why = why;
  accepted = record { wholes = Wholes.none; in_form = no_atoms };
  joined = refl;
  some = some;
  unfit = bad;
}

-- one behind an atom that is accepted
refused_behind : (atom s : List ℕ) → IsAtom atom → shortest atom ≡ true → Refused s → Refused (atom ++ s)
refused_behind atom s w h r = record {
  front_bytes = atom ++ r.front_bytes;
  rest = r.rest;
  atoms = atom ∷ r.atoms;
  why = r.why;
  accepted = record {
    wholes = Wholes.more w r.accepted.wholes;
    in_form = join_shortest atom r.atoms h r.accepted.in_form;
  };
  joined = ap (λ (l : List ℕ). atom ++ l) r.joined ∙ sym (append_assoc atom r.front_bytes r.rest);
  some = r.some;
  unfit = r.unfit;
}

-- whole, known atoms, and what follows them: all are in shortest form, or one is refused
scanned : {l : List ℕ} {atoms : List (List ℕ)} → Atoms l atoms → (after : List ℕ) →
    (all_shortest atoms ≡ true) ⊎ Refused (l ++ after)
scanned Wholes.none after = inl no_atoms
scanned (Wholes.more {atom} {rest} {atoms} w r) after = by (shortest atom) refl (scanned r after)
  where
    regroup : (atom ++ rest) ++ after ≡ atom ++ (rest ++ after)
    regroup = append_assoc atom rest after

    by : (t : Bool) → shortest atom ≡ t → (all_shortest atoms ≡ true) ⊎ Refused (rest ++ after) →
        (all_shortest (atom ∷ atoms) ≡ true) ⊎ Refused ((atom ++ rest) ++ after)
    by true e later =
        ⊎_elim (λ ok. inl (join_shortest atom atoms e ok))
        (λ bad. inr (subst Refused (sym regroup) (refused_behind atom (rest ++ after) w e bad))) later
    by false e later =
        let one = atom_some atom w in
        inr
        (subst Refused (sym regroup)
        (refused_first (atom ++ (rest ++ after)) R.NotShortest (omega (arith, length-append atom (rest ++ after)))
        (Checks.longer atom (rest ++ after) refl w e)))

-- and one that is spoilt behind atoms that are all in shortest form
pub either : (s : List ℕ) → ((atoms : List (List ℕ)) × Accepted s atoms) ⊎ Refused s
either s = ⊎_elim made broken (Price.judged s)
  where
    made : Made s → ((atoms : List (List ℕ)) × Accepted s atoms) ⊎ Refused s
    made m =
        ⊎_elim (λ ok. inl (m.atoms, record { wholes = m.wholes; in_form = ok }))
        (λ bad. inr (subst Refused (append-nil s) bad)) (scanned m.wholes [])

    broken : Broken s → ((atoms : List (List ℕ)) × Accepted s atoms) ⊎ Refused s
    broken b =
        ⊎_elim
        (λ ok. inr (record {
          front_bytes = b.front_bytes;
          rest = b.rest;
          atoms = b.atoms;
          why = b.why;
          accepted = record { wholes = b.wholes; in_form = ok };
          joined = b.joined;
          some = b.some;
          unfit = Checks.spoilt b.spoilt;
        }))
        (λ bad. inr (subst Refused (sym b.joined) bad)) (scanned b.wholes b.rest)

-- so an answer says which
pub answer_accepted : (s : List ℕ) → check_all s ≡ (Ok tt) → (atoms : List (List ℕ)) × Accepted s atoms
answer_accepted s e = ⊎_elim (λ a. a) (λ r. absurd (differ (refused_answer s r))) (either s)
  where
    differ : {why : Refusal} {at : ℕ} → check_all s ≡ Err (why, record { 0 = at }) → ⊥
    differ q = let x = sym e ∙ q in false≢true cc
