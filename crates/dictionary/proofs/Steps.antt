-- The step over a source: where the header is cut, and what follows it; it goes forward and stays within the source,
-- the budget never rises, and what an atom costs is at most 4/3 of its body.
use Rattle.std.specs.Prelude.{Ok, Err}
use mathlib.Core.Path.{◌≡◌, refl, ◌∙◌, sym, ap}
use mathlib.Core.Bool.{Bool, true, false, false≢true}
use mathlib.Core.List.{List, []}
use Prim.Native.Nat.{ℕ, ◌+◌, ◌-◌, ◌*◌, ◌%◌, ◌^◌, ◌≤◌, ◌<◌}
use native.Mathlib.Omega.{arith}
use lib.Dec.{leb, eqb}
use lib.ListN.{length, drop}
use borrow.Author.Tests.{le-ltb, le-leb, lt-leb, leb-true, leb-false, eqb-true, ne_eqb}
use Rattle.types.proofs.Answers.{same_ok}
use Rattle.types.specs.Answers.{AtomAnswer, HeaderAnswer, Skipped}
use Rattle.types.specs.Choice.{pick}
use Rattle.types.specs.Counters.{places_of}
use Rattle.types.specs.Forms.{count_of, number_charge, body_length, charge_of}
use Rattle.types.specs.declared.Way.TheVariants as W
use Rattle.types.specs.declared.Kind.{Kind}
use Rattle.types.specs.declared.Kind.TheVariants as K
use Rattle.types.proofs.Counters.{place_same}
use Rattle.types.specs.declared.Place.{Place}
use Rattle.types.specs.declared.Places.{Places}
use Rattle.types.specs.declared.Budget.{Budget}
use Rattle.types.specs.declared.Refusal.{Refusal}
use Rattle.types.specs.declared.Refusal.TheVariants as R
use Rattle.header.specs.Header.{header_from, header_read, header_kind, header_argument, header_length}
use Rattle.header.proofs.Fewest.{length_bounds}
use Rattle.atom.specs.Atoms.{atom_read, atom_from, atom_after, first_place}
use Rattle.atom.proofs.Placed.{Placed, atom_placed}
use Rattle.dictionary.specs.Steps.{forgotten, skipped, body_after, lean, stepped, header_end, last_of, past}
use Rattle.dictionary.specs.Runs.{unlimited}
use Rattle.dictionary.proofs.Bodies.{after_header, Passed, passed}

module _ (s : List ℕ) (at : ℕ) (within : at ≤ length s) (budget : Budget) where
  -- the header is cut: "4 Eof: end of slice", and the budget stays
  pub step_cut : length s < at + header_length (drop at s) →
      skipped s at budget ≡ Err (record { 0 = length s }, budget, R.Eof)
  unfolding skipped atom_read header_from
  step_cut k = simp (le-ltb (length s) at within, lt-leb (at + header_length (drop at s)) (length s) k)

  header_whole : at + header_length (drop at s) ≤ length s →
      header_read W.ExactLent s at
      ≡ Ok (record { 0 = at + header_length (drop at s) }, header_kind (drop at s), header_argument (drop at s))
  unfolding header_from
  header_whole k = simp (le-ltb (length s) at within, le-leb (at + header_length (drop at s)) (length s) k)

  -- the header is whole: the body follows
  pub step_body : at + header_length (drop at s) ≤ length s →
      skipped s at budget
      ≡ body_after (length s) (header_kind (drop at s)) (header_argument (drop at s)) at
      (at + header_length (drop at s)) budget.0
  unfolding skipped atom_read
  step_body k =
      ap (λ (h : HeaderAnswer). forgotten (atom_from W.ExactLent s (first_place s at) budget [] h)) (header_whole k)
      ∙ ap (λ (n : ℕ). forgotten (atom_after W.ExactLent s (header_kind (drop at s)) (header_argument (drop at s))
      (record { 0 = n }) (record { 0 = at + header_length (drop at s) }) budget [])) (place_same (length s) at within)
      ∙ after_header s (header_argument (drop at s)) (record { 0 = at }) (record { 0 = at + header_length (drop at s) })
      budget (header_kind (drop at s)) k

-- what an atom costs is at most 4/3 of its body bytes
number_price : (count : ℕ) (t u : Bool) → eqb count 3 ≡ t → eqb count 6 ≡ u → 3 * pick t 4 (pick u 8 count) ≤ 4 * count
number_price count true u a b = omega (arith, eqb-true count 3 a)
number_price count false true a b = omega (arith, eqb-true count 6 b)
number_price count false false a b = omega arith

number : (count : ℕ) → 3 * number_charge count ≤ 4 * count
number count = number_price count (eqb count 3) (eqb count 6) refl refl

pub price_bound : (kind : Kind) (arg : ℕ) → 3 * charge_of kind arg ≤ 4 * body_length kind arg
price_bound K.Special arg = omega arith
price_bound K.Int arg = number (count_of arg)
price_bound K.UInt arg = number (count_of arg)
price_bound K.Float arg = number (count_of arg)
price_bound K.Sequence arg = omega arith
price_bound K.Map arg = omega arith
price_bound K.Symbol arg = omega arith
price_bound K.Bytes arg = omega arith

-- and at most the largest budget
number_most : (count : ℕ) (t u : Bool) → count ≤ unlimited → pick t 4 (pick u 8 count) ≤ unlimited
number_most count true u h = omega arith
number_most count false true h = omega arith
number_most count false false h = h

count_word : (arg : ℕ) → number_charge (count_of arg) ≤ unlimited
count_word arg = number_most (count_of arg) (eqb (count_of arg) 3) (eqb (count_of arg) 6) (low arg)
  where
    low : (arg : ℕ) → (arg + 1) % 2 ^ 64 ≤ 0xFFFF_FFFF_FFFF_FFFF
    low arg = omega arith

pub charge_word : (kind : Kind) (arg : ℕ) → arg < 2 ^ 64 → charge_of kind arg ≤ unlimited
charge_word K.Special arg h = omega arith
charge_word K.Int arg h = count_word arg
charge_word K.UInt arg h = count_word arg
charge_word K.Float arg h = count_word arg
charge_word K.Sequence arg h = omega arith
charge_word K.Map arg h = omega arith
charge_word K.Symbol arg h = omega arith
charge_word K.Bytes arg h = omega arith

-- the step goes past an atom: to a place, with so much of the budget left; the atom stands there and is a string or not
pub record Past (s : List ℕ) (at : ℕ) (budget : Budget) (place : Place) (rest : Budget) (places : Places)
    (string : Bool) : Type 0
  where
    pub is : skipped s at budget ≡ Ok (place, rest, places, string)

-- THE STEP GOES FORWARD: an atom takes a byte at least and never passes the end; the budget never rises
pub record Forward (s : List ℕ) (at left place rest : ℕ) (places : Places) : Type 0 where
  pub takes : at < places.body.0
  pub after : places.body.0 ≤ place
  pub inside : place ≤ length s
  pub falls : rest ≤ left
  pub costs : 3 * (left - rest) ≤ 4 * (place - places.body.0)

forward_body : (s : List ℕ) (at len charge left place rest b : ℕ) (places : Places) (string t allowed : Bool) →
    at < b → 3 * charge ≤ 4 * len → Passed (length s) at b left string len charge allowed place rest places t →
    Forward s at left place rest places
forward_body s at len charge left place rest b places string t allowed h k p =
    let e = p.ends in
    let f = p.leaves in
    let g : places.body.0 ≡ b = ap (λ (x : Places). x.body.0) p.stands in
    let i = p.is_whole in
    let j = p.afforded in
    record { takes = omega arith; after = omega arith; inside = omega arith; falls = omega arith; costs = omega arith }

module _ (s : List ℕ) (at : ℕ) (within : at ≤ length s) (budget : Budget) (place : Place) (rest : Budget)
    (places : Places) (t : Bool) where
  forward_at : (v : Bool) → leb (at + header_length (drop at s)) (length s) ≡ v →
      Past s at budget place rest places t → Forward s at budget.0 place.0 rest.0 places
  forward_at false h e =
      let x = sym e.is ∙ step_cut s at within budget (leb-false (at + header_length (drop at s)) (length s) h) in
      absurd (false≢true cc)
  forward_at true h e =
      let l = drop at s in
      let k = leb-true (at + header_length l) (length s) h in
      let x = sym (step_body s at within budget k) ∙ e.is in
      let one = (length_bounds l).0 in
      forward_body s at _ _ budget.0 _ _ (at + header_length l) places _ t _ (omega arith)
      (price_bound (header_kind l) (header_argument l)) (passed _ _ _ _ _ _ _ _ place rest places t _ x)

  -- and it stands where a loop finds it again that holds where it starts
  last_at : (v : Bool) → leb (at + header_length (drop at s)) (length s) ≡ v →
      Past s at budget place rest places t → places ≡ last_of s (record { 0 = at }) place
  last_at false h e =
      let x = sym e.is ∙ step_cut s at within budget (leb-false (at + header_length (drop at s)) (length s) h) in
      absurd (false≢true cc)
  last_at true h e =
      let l = drop at s in
      let k = leb-true (at + header_length l) (length s) h in
      let x = sym (step_body s at within budget k) ∙ e.is in
      let p = passed _ _ _ _ _ _ _ _ place rest places t _ x in
      let one = (length_bounds l).0 in
      let n = p.ends in
      let apart : at ≡ place.0 → ⊥ = λ z. omega arith in
      let m : record { 0 = at + header_length l + body_length (header_kind l) (header_argument l) } ≡ place =
      ap (λ (i : ℕ). record { 0 = i }) (sym n) in
      p.stands
      ∙ ap (λ (q : Place). places_of (record { 0 = at }) (record { 0 = at + header_length l }) q) m
      ∙ sym (rw (ne_eqb at place.0 apart)
      (ap (λ (y : HeaderAnswer). places_of (record { 0 = at }) (header_end y) place) (header_whole s at within budget k)))

  pub past_last : Past s at budget place rest places t → places ≡ last_of s (record { 0 = at }) place
  past_last e = last_at (leb (at + header_length (drop at s)) (length s)) refl e

  pub forward : Past s at budget place rest places t → Forward s at budget.0 place.0 rest.0 places
  forward e = forward_at (leb (at + header_length (drop at s)) (length s)) refl e

-- as every atom that is read carries its first place and the one after it, so does what the step passes, and the loops
-- need not be told of them
past_lean : (first : Place) (a : AtomAnswer) → Placed first a → (place : Place) (rest : Budget) (body : Place)
    (t : Bool) →
    lean (forgotten a) ≡ Ok (place, rest, body, t) → forgotten a ≡ Ok (place, rest, places_of first body place, t)
past_lean first (Ok (p, b, x)) stand place rest body t e =
    let z = same_ok e in
    let u = ap (λ (y : Place × Budget × Place × Bool). y.0) z in
    let v = ap (λ (y : Place × Budget × Place × Bool). y.1) z in
    let w = ap (λ (y : Place × Budget × Place × Bool). y.2) z in
    let y = ap (λ (y : Place × Budget × Place × Bool). y.3) z in
    cc
past_lean first (Err (p, b, r)) stand place rest body t e = absurd (false≢true cc)

refused_lean : (k : Skipped) (place : Place) (rest : Budget) (why : Refusal) → lean k ≡ Err (place, rest, why) →
    k ≡ Err (place, rest, why)
refused_lean (Ok (p, b, q, v)) place rest why e = absurd (false≢true cc)
refused_lean (Err (p, b, r)) place rest why e = cc

module _ (s : List ℕ) (place : ℕ) (budget : Budget) where
  pub told_past : (after : Place) (rest : Budget) (body : Place) (t : Bool) →
      stepped s place budget ≡ Ok (after, rest, body, t) →
      skipped s place budget ≡ Ok (after, rest, places_of (first_place s place) body after, t)
  unfolding stepped skipped
  told_past after rest body t e =
      past_lean (first_place s place) (atom_read W.ExactLent s place budget [])
      (atom_placed W.ExactLent s place budget []) after rest body t e

  pub told_refused : (end : Place) (rest : Budget) (why : Refusal) →
      stepped s place budget ≡ Err (end, rest, why) → skipped s place budget ≡ Err (end, rest, why)
  unfolding stepped
  told_refused end rest why e = refused_lean (skipped s place budget) end rest why e

-- what the loops are told of a step that passed an atom, by `step_atom` or by the first byte alone, and what follows of
-- it: the atom stands from where the loop was, over its body, to the place after it
abbrev pub Told : {X : Type 0} → (List ℕ → ℕ → Budget → X) → (Place → Budget → Place → Bool → X) →
    (List ℕ → Place → Budget → Place → Budget → Places → Bool → Type 0) → Type 0
Told {X} step past P =
    (s : List ℕ) (at : Place) (left : Budget) (r : X) (place : Place) (rest : Budget) (body : Place) (t : Bool) →
    r ≡ step s at.0 left → r ≡ past place rest body t → at.0 < length s →
    P s at left place rest (places_of at body place) t

abbrev pub Telling : {X : Type 0} → (List ℕ → ℕ → Budget → X) → (Place → Budget → Place → Bool → X) → Type 0
Telling step past =
    (s : List ℕ) (at : ℕ) (left : Budget) (place : Place) (rest : Budget) (body : Place) (t : Bool) →
    step s at left ≡ past place rest body t → stepped s at left ≡ Ok (place, rest, body, t)

pub told : {X : Type 0} (step : List ℕ → ℕ → Budget → X) (past : Place → Budget → Place → Bool → X) →
    Telling step past → (P : List ℕ → Place → Budget → Place → Budget → Places → Bool → Type 0) →
    ((s : List ℕ) (at : Place) (left : Budget) (place : Place) (rest : Budget) (places : Places) (t : Bool) →
    at.0 < length s → Past s at.0 left place rest places t → P s at left place rest places t) →
    Told step past P
told step past telling P f s at left r place rest body t q p h =
    f s at left place rest (places_of at body place) t h (record { is = all })
  where
    all : skipped s at.0 left ≡ Ok (place, rest, places_of at body place, t)
    all =
        told_past s at.0 left place rest body t (telling s at.0 left place rest body t (sym q ∙ p))
        ∙ ap (λ (n : ℕ). Ok (place, rest, places_of (record { 0 = n }) body place, t))
        (place_same (length s) at.0 (omega arith))

pub by_step : Telling stepped past
by_step s at left place rest body t e = e

-- the body starts before its end, and both are within the source; the budget never rises, and fewer bytes are left
abbrev pub Starts : List ℕ → Place → Budget → Place → Budget → Places → Bool → Type 0
Starts s at left place rest places t = places.body.0 ≤ place.0

abbrev pub Begins : List ℕ → Place → Budget → Place → Budget → Places → Bool → Type 0
Begins s at left place rest places t = at.0 ≤ places.body.0

abbrev pub Inside : List ℕ → Place → Budget → Place → Budget → Places → Bool → Type 0
Inside s at left place rest places t = place.0 ≤ length s

abbrev pub Falls : List ℕ → Place → Budget → Place → Budget → Places → Bool → Type 0
Falls s at left place rest places t = rest.0 ≤ left.0

abbrev pub Less : List ℕ → Place → Budget → Place → Budget → Places → Bool → Type 0
Less s at left place rest places t = length s - place.0 < length s - at.0

module _ (s : List ℕ) (at : Place) (left : Budget) (place : Place) (rest : Budget) (places : Places) (t : Bool)
    (h : at.0 < length s) (p : Past s at.0 left place rest places t) where
  pub went : Forward s at.0 left.0 place.0 rest.0 places
  went = forward s at.0 (omega arith) left place rest places t p

  pub starts : Starts s at left place rest places t
  starts = went.after

  pub begins : Begins s at left place rest places t
  begins = let w = went in omega arith

  pub inside : Inside s at left place rest places t
  inside = went.inside

  pub falls : Falls s at left place rest places t
  falls = went.falls

  pub less : Less s at left place rest places t
  less = let w = went in omega arith

pub step_starts : Told stepped past Starts
step_starts = told stepped past by_step Starts starts

pub step_begins : Told stepped past Begins
step_begins = told stepped past by_step Begins begins

pub step_inside : Told stepped past Inside
step_inside = told stepped past by_step Inside inside

pub step_falls : Told stepped past Falls
step_falls = told stepped past by_step Falls falls

pub step_less : Told stepped past Less
step_less = told stepped past by_step Less less
