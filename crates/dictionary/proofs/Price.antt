-- THE PRICE OF A FILE IS EXACT (demand 3): what the tally and the run answer of a list of whole, known atoms; and what
-- the tally answers of every other input. It rests on the step at one atom, by induction over the list: one law of a
-- walk for both.
use Rattle.std.specs.Prelude.{Ok, Err}
use mathlib.Core.Path.{◌≡◌, refl, ◌∙◌, sym, ap, subst}
use mathlib.Core.Bool.{Bool, true, false, false≢true}
use mathlib.Core.List.{List, [], ◌∷◌, ◌++◌, append_assoc, append-nil}
use mathlib.Core.Logic.{◌⊎◌, inl, inr, ⊎_elim}
use Prim.Native.Nat.{ℕ, zero, suc, ◌+◌, ◌-◌, ◌*◌, ◌≤◌, ◌<◌}
use native.Mathlib.Omega.{arith}
use lib.Dec.{ltb, leb}
use lib.ListN.{length, take, drop, length-append, length-drop, take-append-drop}
use lib.Seq.{drop-append_seam, length-take-le}
use borrow.Author.Tests.{le-ltb, ltb-true, ltb-false, leb-true, leb-false}
use Rattle.types.specs.Answers.{run_of}
use Rattle.types.specs.Forms.{known, charge_of, unknown}
use Rattle.types.specs.Counters.{no_places}
use Rattle.types.specs.declared.Place.{Place}
use Rattle.types.specs.declared.Places.{Places}
use Rattle.types.specs.declared.Refusal.{Refusal}
use Rattle.types.specs.declared.Refusal.TheVariants as R
use Rattle.types.specs.declared.Tallied.{Tallied}
use Rattle.types.specs.declared.TallyAnswer.TheVariants as TA
use Rattle.header.specs.Header.{header_kind, header_argument, header_length}
use Rattle.types.specs.declared.Kind.{Kind}
use Rattle.types.specs.declared.Kind.TheVariants as K
use Rattle.header.proofs.Fewest.{length_bounds}
use Rattle.dictionary.specs.Wholes.{IsAtom, price, body_bytes, letters_in, Atoms, none}
use Rattle.dictionary.specs.Wholes.{places_at, last_from, last_places}
use Rattle.dictionary.specs.Wholes.{more, total, Spoilt, cut_header, unknown_atom, cut_body}
use Rattle.dictionary.specs.Prices.{priced, Passing, Barred, over_budget, Made, Broken}
use Rattle.dictionary.specs.Runs.{run_from, run_all, tallied, tally_from, tally_all, nothing, most_bytes, unlimited}
use Rattle.dictionary.proofs.Steps.{price_bound}
use Rattle.dictionary.proofs.Turns.{run_on, run_stop, run_end, tally_on, tally_stop, tally_end}
use Rattle.dictionary.proofs.Running.{Held, holding, running}
use Rattle.dictionary.proofs.Tallying as Tallying
use Rattle.dictionary.proofs.Tallying.{tallying}
use Rattle.dictionary.proofs.Fronts.{front, front_grows}
use Rattle.dictionary.proofs.Wholes.{price_word, atom_some, atom_within, atom_next, atom_past, plus}
use Rattle.dictionary.proofs.Wholes.{added_plus, barred_refuses, spoilt_bars, asked_word}

-- atoms never outnumber bytes
pub atoms_most : {l : List ℕ} {atoms : List (List ℕ)} → Atoms l atoms → length atoms ≤ length l
atoms_most none = omega arith
atoms_most (more {atom} {rest} w r) =
    let i = atoms_most r in let one = atom_some atom w in omega (arith, length-append atom rest)

-- 3C is at most 4 times the body bytes
pub price_body : (atoms : List (List ℕ)) → 3 * total price atoms ≤ 4 * total body_bytes atoms
unfolding total
price_body [] = omega arith
price_body (atom ∷ atoms) =
    let one = price_bound (header_kind atom) (header_argument atom) in
    let others = price_body atoms in
    omega arith

-- A WALK PASSES OVER WHOLE, KNOWN ATOMS, whatever it holds: after each, which stands at a place, what `next` makes of
-- it, as long as it covers them
unfoldable passed : {X : Type 0} → (ℕ → X → List ℕ → X) → ℕ → X → List (List ℕ) → X
passed next at x [] = x
passed next at x (atom ∷ atoms) = passed next (at + length atom) (next at x atom) atoms

-- a turn of a walk over an atom that stands at a place
abbrev Turn : {X Y : Type 0} → (ℕ → List ℕ → ℕ → X → Y) → (ℕ → X → List ℕ → X) → (X → List (List ℕ) → Type 0) → Type 0
Turn {X} walk next Covers =
    (s : List ℕ) (fuel left at : ℕ) (x : X) (atom after : List ℕ) (atoms : List (List ℕ)) → fuel ≡ suc left →
    at < length s → at ≤ length s → drop at s ≡ atom ++ after → IsAtom atom → Covers x (atom ∷ atoms) →
    (walk fuel s at x ≡ walk left s (at + length atom) (next at x atom)) × Covers (next at x atom) atoms

walk_over :
    {X Y : Type 0} (walk : ℕ → List ℕ → ℕ → X → Y) (next : ℕ → X → List ℕ → X)
    (Covers : X → List (List ℕ) → Type 0) →
    Turn walk next Covers
    → (s : List ℕ) {l : List ℕ} {atoms : List (List ℕ)} → Atoms l atoms →
    (after : List ℕ) (fuel left at end : ℕ) (x : X) → fuel ≡ length atoms + left → end ≡ at + length l → at ≤ length s →
    drop at s ≡ l ++ after → Covers x atoms
    → walk fuel s at x ≡ walk left s end (passed next at x atoms)
unfolding passed
walk_over walk next Covers turn s none after fuel left at end x f e within here c =
    let a : fuel ≡ left = omega arith in
    let b : at ≡ end = omega arith in
    ap (λ (n : ℕ). walk n s at x) a ∙ ap (λ (n : ℕ). walk left s n x) b
walk_over walk next Covers turn s (more {atom} {rest} {atoms} w r) after fuel left at end x f e within here c =
    let there : drop at s ≡ atom ++ (rest ++ after) = here ∙ append_assoc atom rest after in
    let inside = atom_within s at within atom (rest ++ after) there w in
    let one = atom_some atom w in
    let g : fuel ≡ suc (length atoms + left) = omega arith in
    let n : end ≡ at + length atom + length rest = omega (arith, length-append atom rest) in
    let t = turn s fuel (length atoms + left) at x atom (rest ++ after) atoms g (omega arith) within there w c in
    t.0
    ∙ walk_over walk next Covers turn s r after (length atoms + left) left (at + length atom) end (next at x atom) refl
    n inside (atom_next s at within atom (rest ++ after) there w) t.1

-- THE TALLY adds what each has, and holds where the last of them stands
abbrev count : ℕ → Tallying.Held → List ℕ → Tallying.Held
count at x atom = Tallying.holding (plus x.counts atom) (places_at at atom)

unfoldable summed : Tallied → List (List ℕ) → Tallied
summed t [] = t
summed t (atom ∷ atoms) = summed (plus t atom) atoms

counted : (at : ℕ) (t : Tallied) (last : Places) (atoms : List (List ℕ)) →
    passed count at (Tallying.holding t last) atoms ≡ Tallying.holding (summed t atoms) (last_from at last atoms)
unfolding passed summed last_from
counted at t last [] = refl
counted at t last (atom ∷ atoms) = counted (at + length atom) (plus t atom) (places_at at atom) atoms

tally_turn : Turn tallying count (λ x atoms. Unit {0})
tally_turn s fuel left at x atom after atoms enough going within here w c = (
  tally_on s fuel left at x.counts x.last enough _ _ _ _ going
      (atom_past s at within atom after here w (record { 0 = unlimited }) (price_word atom))
      ∙ ap (λ (t : Tallied). tally_from left s (at + length atom) t (places_at at atom))
      (added_plus s at atom after here w x.counts),
  tt,
)

tally_over : (s : List ℕ) {l : List ℕ} {atoms : List (List ℕ)} → Atoms l atoms →
    (after : List ℕ) (fuel left at end : ℕ) (t : Tallied) (last : Places) → fuel ≡ length atoms + left →
    end ≡ at + length l → at ≤ length s → drop at s ≡ l ++ after →
    tally_from fuel s at t last ≡ tally_from left s end (summed t atoms) (last_from at last atoms)
tally_over s {l} {atoms} w after fuel left at end t last f e within here =
    walk_over tallying count (λ x atoms. Unit {0}) tally_turn s w after fuel left at end (Tallying.holding t last) f e
    within here tt
    ∙ ap (tallying left s end) (counted at t last atoms)

-- what it adds up to
same_tallied : {a a' b b' c c' l l' : ℕ} → a ≡ a' → b ≡ b' → c ≡ c' → l ≡ l' → tallied a b c l ≡ tallied a' b' c' l'
same_tallied {a} {a'} {b} {b'} {c} {c'} {l} {l'} p q r s =
    ap (λ (x : ℕ). tallied x b c l) p
    ∙ ap (λ (x : ℕ). tallied a' x c l) q
    ∙ ap (λ (x : ℕ). tallied a' b' x l) r
    ∙ ap (tallied a' b' c') s

summed_total : (a b c l : ℕ) (atoms : List (List ℕ)) →
    summed (tallied a b c l) atoms
    ≡ tallied (a + length atoms) (b + total body_bytes atoms) (c + total price atoms) (l + total letters_in atoms)
unfolding summed total
summed_total a b c l [] = same_tallied (zeroed a) (zeroed b) (zeroed c) (zeroed l)
  where
    zeroed : (n : ℕ) → n ≡ n + 0
    zeroed n = omega arith
summed_total a b c l (atom ∷ atoms) =
    summed_total (a + 1) (b + body_bytes atom) (c + price atom) (l + letters_in atom) atoms
    ∙ same_tallied (counted a (length atoms)) (grouped b (body_bytes atom) (total body_bytes atoms))
    (grouped c (price atom) (total price atoms)) (grouped l (letters_in atom) (total letters_in atoms))
  where
    grouped : (n m k : ℕ) → n + m + k ≡ n + (m + k)
    grouped n m k = omega arith

    counted : (n k : ℕ) → n + 1 + k ≡ n + suc k
    counted n k = omega arith

summed_all : (atoms : List (List ℕ)) → summed nothing atoms ≡ priced atoms
summed_all atoms =
    summed_total 0 0 0 0 atoms
    ∙ same_tallied (none_yet (length atoms)) (none_yet (total body_bytes atoms)) (none_yet (total price atoms))
    (none_yet (total letters_in atoms))
  where
    none_yet : (n : ℕ) → 0 + n ≡ n
    none_yet n = omega arith

-- 1: THE TALLY ANSWERS C, the number of atoms, the body bytes and the letters
pub tally_priced : (s : List ℕ) (atoms : List (List ℕ)) → length s ≤ most_bytes → Atoms s atoms →
    tally_all s ≡ TA.Done (last_places atoms) (priced atoms)
tally_priced s atoms short w =
    let most = atoms_most w in
    let there : s ≡ s ++ [] = sym (append-nil s) in
    let e : length s ≡ 0 + length s = omega arith in
    rw (le-ltb most_bytes (length s) short)
    (tally_over s w [] (suc (length s)) (suc (length s - length atoms)) 0 (length s) nothing no_places (omega arith) e
    (omega arith) there
    ∙ tally_end s (suc (length s - length atoms)) (length s - length atoms) (length s) (summed nothing atoms)
    (last_places atoms) refl (omega arith)
    ∙ ap (TA.Done (last_places atoms)) (summed_all atoms))

-- THE RUN takes their charges off the budget, which covers them, counts them, and holds where the last of them stands
abbrev spend : ℕ → Held → List ℕ → Held
spend at x atom = holding (x.left - price atom) (x.atoms + 1) (places_at at atom)

run_turn : Turn running spend (λ x atoms. total price atoms ≤ x.left)
unfolding total
run_turn s fuel left at x atom after atoms enough going within here w c = (
  run_on s fuel left at (record { 0 = x.left }) x.atoms x.last enough _ _ _ _ going
      (atom_past s at within atom after here w (record { 0 = x.left }) (omega arith)),
  omega arith,
)

spent : (at b n : ℕ) (last : Places) (atoms : List (List ℕ)) →
    passed spend at (holding b n last) atoms
    ≡ holding (b - total price atoms) (n + length atoms) (last_from at last atoms)
unfolding passed total last_from
spent at b n last [] =
    let p : b ≡ b - 0 = omega arith in
    let q : n ≡ n + 0 = omega arith in
    ap (λ (x : ℕ). holding x n last) p ∙ ap (λ (x : ℕ). holding (b - 0) x last) q
spent at b n last (atom ∷ atoms) =
    let e = spent (at + length atom) (b - price atom) (n + 1) (places_at at atom) atoms in
    let p : b - price atom - total price atoms ≡ b - (price atom + total price atoms) = omega arith in
    let q : n + 1 + length atoms ≡ n + suc (length atoms) = omega arith in
    cc

-- A RUN OVER THE ATOMS THAT STAND FIRST, whose charges the budget covers
module _ (s front rest : List ℕ) (atoms : List (List ℕ)) (budget : ℕ) (w : Atoms front atoms) (e : s ≡ front ++ rest)
    (c : total price atoms ≤ budget) where
  its_size : length s ≡ length front + length rest
  its_size = ap length e ∙ length-append front rest

  run_over : run_all s (record { 0 = budget })
      ≡ run_from (suc (length s - length atoms)) s (length front) (record { 0 = budget - total price atoms })
      (length atoms) (last_places atoms)
  run_over =
      let n = its_size in
      let most = atoms_most w in
      let end : length front ≡ 0 + length front = omega arith in
      let k : 0 + length atoms ≡ length atoms = omega arith in
      walk_over running spend (λ x atoms. total price atoms ≤ x.left) run_turn s w rest (suc (length s))
      (suc (length s - length atoms)) 0 (length front) (holding budget 0 no_places) (omega arith) end (omega arith) e c
      ∙ ap (running (suc (length s - length atoms)) s (length front)) (spent 0 budget 0 no_places atoms)
      ∙ ap (λ (n : ℕ). run_from (suc (length s - length atoms)) s (length front)
      (record { 0 = budget - total price atoms }) n (last_places atoms)) k

  -- and stops at the atom behind them, if that is refused
  pub run_barred : (why : Refusal) (past charge : ℕ) → 1 ≤ length rest →
      Barred rest (budget - total price atoms) why past charge →
      run_all s (record { 0 = budget })
      ≡ Err (
        run_of (record { 0 = length front + past }) (record { 0 = budget - total price atoms - charge })
            (length atoms) (last_places atoms),
        why,
        record { 0 = length front },
      )
  run_barred why past charge some bad =
      let n = its_size in
      let there : drop (length front) s ≡ rest = ap (drop (length front)) e ∙ drop-append_seam front rest in
      run_over
      ∙ run_stop s (suc (length s - length atoms)) (length s - length atoms) (length front)
      (record { 0 = budget - total price atoms }) (length atoms) (last_places atoms) refl _ _ why (omega arith)
      (barred_refuses s (length front) (omega arith) rest there (budget - total price atoms) bad)

-- 2: A RUN WITH A BUDGET OF AT LEAST C reads them all, and leaves the budget less C
pub run_priced : (s : List ℕ) (atoms : List (List ℕ)) (budget : ℕ) → Atoms s atoms → total price atoms ≤ budget →
    run_all s (record { 0 = budget })
    ≡ Ok (run_of (record { 0 = length s }) (record { 0 = budget - total price atoms }) (length atoms)
    (last_places atoms))
run_priced s atoms budget w c =
    run_over s s [] atoms budget w (sym (append-nil s)) c
    ∙ run_end s (suc (length s - length atoms)) (length s - length atoms) (length s)
    (record { 0 = budget - total price atoms }) (length atoms) (last_places atoms) refl (omega arith)

-- 3: A RUN WITH A SMALLER BUDGET is refused with 5 at the first atom whose running sum passes it

-- where that is in the bytes
pub record Parted (l : List ℕ) (budget : ℕ) (atoms : List (List ℕ)) : Type 0 where
  pub passing : Passing budget atoms
  pub front : List ℕ
  pub rest : List ℕ
  pub wholes : Atoms front passing.before
  pub whole : IsAtom passing.atom
  pub joined : l ≡ front ++ (passing.atom ++ rest)
  pub starts : length front ≡ total length passing.before

parted_here : (atom rest : List ℕ) (atoms : List (List ℕ)) (budget : ℕ) → IsAtom atom → budget < price atom →
    Parted (atom ++ rest) budget (atom ∷ atoms)
unfolding total
parted_here atom rest atoms budget w h = record {
  passing = record {
    before = [];
    atom = atom;
    after = atoms;
    split = refl;
    covered = omega arith;
    passes = omega arith;
  };
  front = [];
  rest = rest;
  wholes = none;
  whole = w;
  joined = refl;
  starts = refl;
}

parted_later : (atom rest : List ℕ) (atoms : List (List ℕ)) (budget : ℕ) → IsAtom atom → price atom ≤ budget →
    Parted rest (budget - price atom) atoms → Parted (atom ++ rest) budget (atom ∷ atoms)
unfolding total
parted_later atom rest atoms budget w h p =
    let covered = p.passing.covered in
    let passes = p.passing.passes in
    record {
      passing = record {
        before = atom ∷ p.passing.before;
        atom = p.passing.atom;
        after = p.passing.after;
        split = ap (λ (l : List (List ℕ)). atom ∷ l) p.passing.split;
        covered = omega arith;
        passes = omega arith;
      };
      front = atom ++ p.front;
      rest = p.rest;
      wholes = more w p.wholes;
      whole = p.whole;
      joined = ap (λ (x : List ℕ). atom ++ x) p.joined
          ∙ sym (append_assoc atom p.front (p.passing.atom ++ p.rest));
      starts = length-append atom p.front ∙ ap (λ (n : ℕ). length atom + n) p.starts;
    }

pub parted : {l : List ℕ} {atoms : List (List ℕ)} → Atoms l atoms → (budget : ℕ) → budget < total price atoms →
    Parted l budget atoms
unfolding total
parted none budget c = absurd (omega arith)
parted (more {atom} {rest} {atoms} w r) budget c =
    by (λ h. parted r (budget - price atom) (omega arith)) (ltb budget (price atom)) refl
  where
    by : (price atom ≤ budget → Parted rest (budget - price atom) atoms) → (t : Bool) → ltb budget (price atom) ≡ t →
        Parted (atom ++ rest) budget (atom ∷ atoms)
    by later true e = parted_here atom rest atoms budget w (ltb-true budget (price atom) e)
    by later false e =
        let h = ltb-false budget (price atom) e in parted_later atom rest atoms budget w h (later h)

-- the atom that passes the budget is refused there, whatever follows it
module _ (l : List ℕ) (budget : ℕ) (atoms : List (List ℕ)) (p : Parted l budget atoms) (after : List ℕ) where
  pub passing_bars : Barred (p.passing.atom ++ after) (budget - total price p.passing.before)
      R.TooManyBytesRead (header_length p.passing.atom) 0
  passing_bars =
      let atom = p.passing.atom in
      let f = front atom after p.whole.its_header in
      let there = p.whole.its_header in
      let n = length-append atom after in
      let covered = p.passing.covered in
      let passes = p.passing.passes in
      let h = f.same_length in
      let c : price (atom ++ after) ≡ price atom =
      ap (λ (k : Kind). charge_of k (header_argument (atom ++ after))) f.same_kind
      ∙ ap (charge_of (header_kind atom)) f.same_argument
      in
      subst (λ (n : ℕ). Barred (atom ++ after) (budget - total price p.passing.before) R.TooManyBytesRead n 0) h
      (over_budget (omega arith) (omega arith))

  pub passing_some : 1 ≤ length (p.passing.atom ++ after)
  passing_some =
      let one = atom_some p.passing.atom p.whole in omega (arith, length-append p.passing.atom after)

pub run_short : (s : List ℕ) (atoms : List (List ℕ)) (budget : ℕ) → Atoms s atoms → budget < total price atoms →
    (p : Passing budget atoms) × (run_all s (record { 0 = budget })
    ≡ Err (
      run_of (record { 0 = total length p.before + header_length p.atom })
          (record { 0 = budget - total price p.before }) (length p.before) (last_places p.before),
      R.TooManyBytesRead,
      record { 0 = total length p.before },
    ))
run_short s atoms budget w c =
    let p = parted w budget c in
    let q = p.passing in
    let starts = p.starts in
    let free : budget - total price q.before - 0 ≡ budget - total price q.before = omega arith in
    let some = passing_some s budget atoms p p.rest in
    let bars = passing_bars s budget atoms p p.rest in
    let e =
    run_barred s p.front (q.atom ++ p.rest) q.before budget p.wholes p.joined q.covered
    R.TooManyBytesRead (header_length q.atom) 0 some bars
    in
    (q, cc)

-- EVERY OTHER INPUT: whole, known atoms up to one that is not

-- the tally refuses there, with that atom's own refusal
broken_at : (s front rest : List ℕ) (atoms : List (List ℕ)) (why : Refusal) → length s ≤ most_bytes → Atoms front atoms →
    s ≡ front ++ rest → 1 ≤ length rest → Spoilt rest why →
    tally_all s ≡ TA.Stopped (last_places atoms) why (record { 0 = length front })
broken_at s front rest atoms why short w e some bad =
    let n : length s ≡ length front + length rest = ap length e ∙ length-append front rest in
    let most = atoms_most w in
    let end : length front ≡ 0 + length front = omega arith in
    let there : drop (length front) s ≡ rest = ap (drop (length front)) e ∙ drop-append_seam front rest in
    let within : length front ≤ length s = omega arith in
    let r = spoilt_bars rest unlimited why bad (asked_word rest) in
    rw (le-ltb most_bytes (length s) short)
    (tally_over s w rest (suc (length s)) (suc (length s - length atoms)) 0 (length front) nothing no_places
    (omega arith) end (omega arith) e
    ∙ tally_stop s (suc (length s - length atoms)) (length s - length atoms) (length front) (summed nothing atoms)
    (last_places atoms) refl _ _ why (omega arith)
    (barred_refuses s (length front) within rest there unlimited r.bars))

pub tally_broken : (s : List ℕ) (b : Broken s) → length s ≤ most_bytes →
    tally_all s ≡ TA.Stopped (last_places b.atoms) b.why (record { 0 = length b.front_bytes })
tally_broken s b short =
    broken_at s b.front_bytes b.rest b.atoms b.why short b.wholes b.joined b.some b.spoilt

-- AN INPUT IS ONE OR THE OTHER
starts : (l : List ℕ) (why : Refusal) → 1 ≤ length l → Spoilt l why → Broken l
starts l why some bad =
    record
    { front_bytes = []; rest = l; atoms = []; why = why; wholes = none; joined = refl; some = some; spoilt = bad }

-- a whole, known atom at the front of the bytes
module _ (l atom rest : List ℕ) (e : atom ++ rest ≡ l) (n : length atom ≡ header_length l + body_bytes l) where
  first_header : header_length atom ≤ length atom
  first_header =
      let g = front_grows atom rest in
      let h : header_length (atom ++ rest) ≡ header_length l = ap header_length e in
      omega arith

  pub first_whole : known (header_kind l) (header_argument l) ≡ true → IsAtom atom
  first_whole k =
      let f = front atom rest first_header in
      let a : header_kind l ≡ header_kind atom = sym (ap header_kind e) ∙ f.same_kind in
      let b : header_argument l ≡ header_argument atom = sym (ap header_argument e) ∙ f.same_argument in
      let c : header_length l ≡ header_length atom = sym (ap header_length e) ∙ f.same_length in
      record { its_header = first_header; its_length = cc; its_kind = cc }

made_more : (l atom rest : List ℕ) → IsAtom atom → atom ++ rest ≡ l → Made rest → Made l
made_more l atom rest w e m =
    record
    { atoms = atom ∷ m.atoms; wholes = subst (λ (x : List ℕ). Atoms x (atom ∷ m.atoms)) e (more w m.wholes) }

broken_more : (l atom rest : List ℕ) → IsAtom atom → atom ++ rest ≡ l → Broken rest → Broken l
broken_more l atom rest w e b = record {
  front_bytes = atom ++ b.front_bytes;
  rest = b.rest;
  atoms = atom ∷ b.atoms;
  why = b.why;
  wholes = more w b.wholes;
  joined = sym e ∙ ap (λ (x : List ℕ). atom ++ x) b.joined ∙ sym (append_assoc atom b.front_bytes b.rest);
  some = b.some;
  spoilt = b.spoilt;
}

judge_first : (l : List ℕ) → 1 ≤ length l → ((rest : List ℕ) → length rest < length l → Made rest ⊎ Broken rest) →
    (t u v : Bool) → leb (header_length l) (length l) ≡ t → known (header_kind l) (header_argument l) ≡ u →
    leb (header_length l + body_bytes l) (length l) ≡ v → Made l ⊎ Broken l
judge_first l some next false u v a b c =
    inr (starts l R.Eof some (cut_header (leb-false (header_length l) (length l) a)))
judge_first l some next true false v a b c =
    inr
    (starts l (unknown (header_kind l) (header_argument l)) some (unknown_atom (leb-true (header_length l) (length l) a) b))
judge_first l some next true true false a b c =
    inr
    (starts l R.Eof some
    (cut_body (leb-true (header_length l) (length l) a) b (leb-false (header_length l + body_bytes l) (length l) c)))
judge_first l some next true true true a b c =
    let whole = leb-true (header_length l + body_bytes l) (length l) c in
    let n : ℕ = header_length l + body_bytes l in
    let e = take-append-drop n l in
    let w = first_whole l (take n l) (drop n l) e (length-take-le n l whole) b in
    let one = (length_bounds l).0 in
    ⊎_elim (λ m. inl (made_more l (take n l) (drop n l) w e m)) (λ x. inr (broken_more l (take n l) (drop n l) w e x))
    (next (drop n l) (omega (arith, length-drop n l)))

judged_by : (fuel : ℕ) (l : List ℕ) → length l < fuel → Made l ⊎ Broken l
judged_by zero l h = absurd (omega arith)
judged_by (suc fuel) [] h = inl (record { atoms = []; wholes = none })
judged_by (suc fuel) (b ∷ l) h =
    judge_first (b ∷ l) (omega arith) (λ rest k. judged_by fuel rest (omega arith)) _ _ _ refl refl refl

pub judged : (s : List ℕ) → Made s ⊎ Broken s
judged s = judged_by (suc (length s)) s (omega arith)

-- THE TALLY NEVER ANSWERS 5: it has no budget
other_refusal : (kind : Kind) (arg : ℕ) → unknown kind arg ≡ R.TooManyBytesRead → ⊥
other_refusal K.Special arg e = false≢true cc
other_refusal K.Int arg e = false≢true cc
other_refusal K.UInt arg e = false≢true cc
other_refusal K.Float arg e = false≢true cc
other_refusal K.Sequence arg e = false≢true cc
other_refusal K.Map arg e = false≢true cc
other_refusal K.Symbol arg e = false≢true cc
other_refusal K.Bytes arg e = false≢true cc

spoilt_other : (l : List ℕ) (why : Refusal) → Spoilt l why → why ≡ R.TooManyBytesRead → ⊥
spoilt_other l why (cut_header h) e = false≢true cc
spoilt_other l why (unknown_atom h k) e = other_refusal (header_kind l) (header_argument l) e
spoilt_other l why (cut_body h k m) e = false≢true cc

never_five_at : (s : List ℕ) (last : Places) (place : Place) (t : Bool) → ltb most_bytes (length s) ≡ t →
    tally_all s ≡ TA.Stopped last R.TooManyBytesRead place → ⊥
never_five_at s last place true h e =
    let x : TA.Refused no_places R.TooLong ≡ TA.Stopped last R.TooManyBytesRead place = rw h at e in false≢true cc
never_five_at s last place false h e =
    let short = ltb-false most_bytes (length s) h in
    ⊎_elim
    (λ m. differ s m.atoms (tally_priced s m.atoms short m.wholes) e)
    (λ b. spoilt_other b.rest b.why b.spoilt (same s (last_places b.atoms)
    (record { 0 = length b.front_bytes }) b.why (tally_broken s b short) e))
    (judged s)
  where
    differ : (s : List ℕ) (atoms : List (List ℕ)) → tally_all s ≡ TA.Done (last_places atoms) (priced atoms) →
        tally_all s ≡ TA.Stopped last R.TooManyBytesRead place → ⊥
    differ s atoms p q = let x = sym p ∙ q in false≢true cc

    same : (s : List ℕ) (front : Places) (at : Place) (why : Refusal) → tally_all s ≡ TA.Stopped front why at →
        tally_all s ≡ TA.Stopped last R.TooManyBytesRead place → why ≡ R.TooManyBytesRead
    same s front at why p q = let x = sym p ∙ q in cc

pub never_five : (s : List ℕ) (last : Places) (place : Place) →
    tally_all s ≡ TA.Stopped last R.TooManyBytesRead place → ⊥
never_five s last place e = never_five_at s last place (ltb most_bytes (length s)) refl e

-- THE RUN AND THE TALLY AGREE: a run with at least the charge that the tally answers reads as many atoms, leaves the
-- rest, and ends with the same last atom
agree_made : (s : List ℕ) (atoms : List (List ℕ)) (t : Tallied) (last : Places) (budget : ℕ) → Atoms s atoms →
    priced atoms ≡ t → last_places atoms ≡ last → t.charge ≤ budget →
    run_all s (record { 0 = budget })
    ≡ Ok (run_of (record { 0 = length s }) (record { 0 = budget - t.charge }) t.atoms last)
agree_made s atoms t last budget w e l h =
    let c : total price atoms ≡ t.charge = ap (λ (x : Tallied). x.charge) e in
    let n : length atoms ≡ t.atoms = ap (λ (x : Tallied). x.atoms) e in
    run_priced s atoms budget w (rw c h)
    ∙ ap (λ (x : ℕ). Ok (run_of (record { 0 = length s }) (record { 0 = budget - x }) (length atoms)
    (last_places atoms))) c
    ∙ ap (λ (x : ℕ). Ok (run_of (record { 0 = length s }) (record { 0 = budget - t.charge }) x
    (last_places atoms))) n
    ∙ ap (λ (x : Places). Ok (run_of (record { 0 = length s }) (record { 0 = budget - t.charge }) t.atoms x)) l

agree_at : (s : List ℕ) (t : Tallied) (last : Places) (budget : ℕ) (l : Bool) → ltb most_bytes (length s) ≡ l →
    tally_all s ≡ TA.Done last t → t.charge ≤ budget →
    run_all s (record { 0 = budget })
    ≡ Ok (run_of (record { 0 = length s }) (record { 0 = budget - t.charge }) t.atoms last)
agree_at s t last budget true h e c =
    let x : TA.Refused no_places R.TooLong ≡ TA.Done last t = rw h at e in absurd (false≢true cc)
agree_at s t last budget false h e c =
    let short = ltb-false most_bytes (length s) h in
    ⊎_elim (λ m. made m (tally_priced s m.atoms short m.wholes))
    (λ b. absurd (differ b (tally_broken s b short)))
    (judged s)
  where
    made : (m : Made s) → tally_all s ≡ TA.Done (last_places m.atoms) (priced m.atoms) →
        run_all s (record { 0 = budget })
        ≡ Ok (run_of (record { 0 = length s }) (record { 0 = budget - t.charge }) t.atoms last)
    made m p =
        let x = sym p ∙ e in
        let a : priced m.atoms ≡ t = cc in
        let b : last_places m.atoms ≡ last = cc in
        agree_made s m.atoms t last budget m.wholes a b c

    differ : (b : Broken s) →
        tally_all s ≡ TA.Stopped (last_places b.atoms) b.why (record { 0 = length b.front_bytes }) → ⊥
    differ b p = let x = sym p ∙ e in false≢true cc

pub agree : (s : List ℕ) (t : Tallied) (last : Places) (budget : ℕ) → tally_all s ≡ TA.Done last t →
    t.charge ≤ budget →
    run_all s (record { 0 = budget })
    ≡ Ok (run_of (record { 0 = length s }) (record { 0 = budget - t.charge }) t.atoms last)
agree s t last budget e c = agree_at s t last budget (ltb most_bytes (length s)) refl e c

-- THE LAST ATOM IS THE LAST: it starts after all that stand before it
last_at : (at : ℕ) (last : Places) (before : List (List ℕ)) (atom : List ℕ) →
    last_from at last (before ++ (atom ∷ [])) ≡ places_at (at + total length before) atom
unfolding last_from total
last_at at last [] atom = let z : at ≡ at + 0 = omega arith in ap (λ (n : ℕ). places_at n atom) z
last_at at last (one ∷ before) atom =
    let z : at + length one + total length before ≡ at + (length one + total length before) = omega arith in
    last_at (at + length one) (places_at at one) before atom ∙ ap (λ (n : ℕ). places_at n atom) z

pub last_is_last : (before : List (List ℕ)) (atom : List ℕ) →
    last_places (before ++ (atom ∷ [])) ≡ places_at (total length before) atom
last_is_last before atom =
    let z : 0 + total length before ≡ total length before = omega arith in
    last_at 0 no_places before atom ∙ ap (λ (n : ℕ). places_at n atom) z
