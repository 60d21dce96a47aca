-- The tally's loop: what holds before each turn, what a turn keeps of it, and what the tally answers at its ends. The
-- sums are bounded by the bytes passed, of which there are at most 16,777,216, so that none wraps.
use Rattle.std.specs.Prelude.{Err, Some}
use mathlib.Core.Path.{◌≡◌, ◌∙◌, sym, ap, subst}
use mathlib.Core.Bool.{Bool}
use mathlib.Core.List.{List}
use Prim.Native.Nat.{ℕ, suc, ◌+◌, ◌-◌, ◌*◌, ◌/◌, ◌%◌, ◌≤◌, ◌<◌}
use native.Mathlib.Omega.{arith}
use borrow.Author.Rules.{rules}
use lib.ListN.{length, take, drop}
use mir.Syntax.{w64}
use mir.Val.{Fits}
use Rattle.dictionary.specs.Steps.{Short, Step, past, short_past}
use Rattle.types.specs.Choice.{pick}
use Rattle.types.specs.Counters.{no_places}
use Rattle.types.specs.declared.Place.{Place}
use Rattle.types.specs.declared.Places.{Places}
use Rattle.types.specs.declared.Budget.{Budget}
use Rattle.types.specs.declared.Refusal.{Refusal}
use Rattle.types.specs.declared.Tallied.{Tallied}
use Rattle.types.specs.declared.TallyAnswer.{TallyAnswer}
use Rattle.types.specs.declared.TallyAnswer.TheVariants as TA
use Rattle.letters.specs.Letters.{letters}
use Rattle.dictionary.specs.Steps.{stepped, short_step, last_of}
use Rattle.dictionary.specs.Runs.{tallied, tally_from, nothing, unlimited}
use Rattle.dictionary.proofs.Steps.{Past, forward, went, Told, told, by_step, step_starts, step_begins}
use Rattle.dictionary.proofs.Steps.{step_inside, step_falls, step_less, past_last, told_refused}
use Rattle.dictionary.proofs.Shorts.{by_first, short_alone, short_starts, short_inside, short_falls, short_less}
use Rattle.dictionary.proofs.Turns.{Walked, walk_begins, walk_on, walk_answers, tally_on, tally_stop, tally_end}

-- what a tally holds: what it counted, and where the last atom stands
pub record Held : Type 0 where
  pub counts : Tallied
  pub last : Places

abbrev pub holding : Tallied → Places → Held
holding counts last = record { counts = counts; last = last }

abbrev pub tallying : ℕ → List ℕ → ℕ → Held → TallyAnswer
tallying fuel s at x = tally_from fuel s at x.counts x.last

-- TWO COUNTS IN ONE NUMBER: how many headers there are, by 2^30, and their bytes
abbrev pub many : ℕ → ℕ
many headers = headers / 0x4000_0000

abbrev pub taken : ℕ → ℕ
taken headers = headers % 0x4000_0000

abbrev pub another : ℕ → ℕ → ℕ
another headers bytes = headers + (0x4000_0000 + bytes)

-- so much is counted, the place is there, and the rest of the tally is the whole one's; what is no header is a body
pub record Tallying (s : List ℕ) (headers charge signs at : ℕ) (last : Places) : Type 0 where
  pub walked : Walked tallying s (tally_from (suc (length s)) s 0 nothing no_places) (many headers) at
      (holding (tallied (many headers) (at - taken headers) charge signs) last)
  pub low : taken headers ≤ at
  pub costs : 3 * charge ≤ 4 * (at - taken headers)
  pub lettered : signs ≤ at

pub tally_begins : (s : List ℕ) → Tallying s 0 0 0 0 no_places
tally_begins s = record {
  walked = walk_begins tallying s (holding nothing no_places);
  low = omega arith;
  costs = omega arith;
  lettered = omega arith;
}

module _ (s : List ℕ) (at : ℕ) (left : Budget) (place : Place) (rest : Budget) (places : Places) (string : Bool)
    (h : at < length s) (p : Past s at left place rest places string) (full : left ≡ record { 0 = unlimited })
    (headers charge signs : ℕ) (last : Places) (i : Tallying s headers charge signs at last) where
  -- an atom that is passed, with so many letters
  passed : length s ≤ 16_777_216 → (n : ℕ) → n + places.body.0 ≤ place.0 →
      n ≡ pick string (letters (take (place.0 - places.body.0) (drop places.body.0 s))) 0 →
      Tallying s (another headers (places.body.0 - at)) (charge + (unlimited - rest.0)) (signs + n) place.0
      (last_of s (record { 0 = at }) place)
  passed short n most e =
      let stand = past_last s at (omega arith) left place rest places string p in
      let all : Past s at (record { 0 = unlimited }) place rest places string = record { is = rw (← full) p.is } in
      let w = forward s at (omega arith) (record { 0 = unlimited }) place rest places string all in
      let f = i.walked.few in
      let l = i.low in
      let c = i.costs in
      let m = i.lettered in
      let takes = w.takes in
      let ends = w.after in
      let inside = w.inside in
      let more : many headers + 1 ≡ many (another headers (places.body.0 - at)) = omega arith in
      let bodies : at - taken headers + (place.0 - places.body.0)
      ≡ place.0 - taken (another headers (places.body.0 - at)) = omega arith in
      record {
        walked =
            rw (← stand, e, ← bodies, ← more)
            (walk_on tallying s _ _ at _ i.walked (record { 0 = unlimited }) place rest places string all
            (holding _ places)
            (λ fuel later k. tally_on s fuel later at _ last k place rest places string h all));
        low = omega arith;
        costs = omega arith;
        lettered = omega arith;
      }

  -- no sum wraps
  module _ (short : length s ≤ 16_777_216) where
    spent : left.0 ≡ unlimited
    spent = ap (λ (b : Budget). b.0) full

    heads_low : Fits w64 (another headers (places.body.0 - at))
    heads_low =
        let w = went s (record { 0 = at }) left place rest places string h p in
        let f = i.walked.few in
        omega arith

    charge_low : Fits w64 (charge + (unlimited - rest.0))
    charge_low =
        let w = went s (record { 0 = at }) left place rest places string h p in
        let e = spent in
        let l = i.low in
        let c = i.costs in
        omega arith

    letters_low : (n : ℕ) → n + places.body.0 ≤ place.0 → Fits w64 (signs + n)
    letters_low n most =
        let w = went s (record { 0 = at }) left place rest places string h p in let m = i.lettered in omega arith

-- what the loop asks of an atom passed, by the step or by its first byte
abbrev HeadFits : List ℕ → Place → Budget → Place → Budget → Places → Bool → Type 0
HeadFits s at left place rest places string =
    length s ≤ 16_777_216 → Fits w64 (0x4000_0000 + (places.body.0 - at.0))

abbrev HeadsFit : List ℕ → Place → Budget → Place → Budget → Places → Bool → Type 0
HeadsFit s at left place rest places string =
    (headers charge signs : ℕ) (last : Places) → Tallying s headers charge signs at.0 last →
    left ≡ record { 0 = unlimited } → length s ≤ 16_777_216 → Fits w64 (another headers (places.body.0 - at.0))

abbrev ChargeFits : List ℕ → Place → Budget → Place → Budget → Places → Bool → Type 0
ChargeFits s at left place rest places string =
    (headers charge signs : ℕ) (last : Places) → Tallying s headers charge signs at.0 last →
    left ≡ record { 0 = unlimited } → length s ≤ 16_777_216 → Fits w64 (charge + (unlimited - rest.0))

abbrev LettersFit : List ℕ → Place → Budget → Place → Budget → Places → Bool → Type 0
LettersFit s at left place rest places string =
    (headers charge signs : ℕ) (last : Places) → Tallying s headers charge signs at.0 last →
    left ≡ record { 0 = unlimited } → length s ≤ 16_777_216 → (n : ℕ) → n + places.body.0 ≤ place.0 →
    Fits w64 (signs + n)

abbrev Tallies : List ℕ → Place → Budget → Place → Budget → Places → Bool → Type 0
Tallies s at left place rest places string =
    (headers charge signs : ℕ) (last : Places) → Tallying s headers charge signs at.0 last →
    left ≡ record { 0 = unlimited } → length s ≤ 16_777_216 → (n : ℕ) → n + places.body.0 ≤ place.0 →
    n ≡ pick string (letters (take (place.0 - places.body.0) (drop places.body.0 s))) 0 →
    Tallying s (another headers (places.body.0 - at.0)) (charge + (unlimited - rest.0)) (signs + n) place.0
    (last_of s at place)

module _ (s : List ℕ) (at : Place) (left : Budget) (place : Place) (rest : Budget) (places : Places) (string : Bool)
    (h : at.0 < length s) (p : Past s at.0 left place rest places string) where
  fits_head : HeadFits s at left place rest places string
  fits_head l = let w = went s at left place rest places string h p in omega arith

  fits_heads : HeadsFit s at left place rest places string
  fits_heads headers charge signs last i full l =
      heads_low s at.0 left place rest places string h p full headers charge signs last i l

  fits_charge : ChargeFits s at left place rest places string
  fits_charge headers charge signs last i full l =
      charge_low s at.0 left place rest places string h p full headers charge signs last i l

  fits_letters : LettersFit s at left place rest places string
  fits_letters headers charge signs last i full l n most =
      letters_low s at.0 left place rest places string h p full headers charge signs last i l n most

  tallies : Tallies s at left place rest places string
  tallies headers charge signs last i full l n most e =
      passed s at.0 left place rest places string h p full headers charge signs last i l n most e

pub head_fits : Told stepped past HeadFits
head_fits = told stepped past by_step HeadFits fits_head

pub heads_fit : Told stepped past HeadsFit
heads_fit = told stepped past by_step HeadsFit fits_heads

pub charge_fits : Told stepped past ChargeFits
charge_fits = told stepped past by_step ChargeFits fits_charge

pub letters_fit : Told stepped past LettersFit
letters_fit = told stepped past by_step LettersFit fits_letters

pub step_tally : Told stepped past Tallies
step_tally = told stepped past by_step Tallies tallies

pub short_charge_fits : Told short_step short_past ChargeFits
short_charge_fits = told short_step short_past by_first ChargeFits fits_charge

pub short_letters_fit : Told short_step short_past LettersFit
short_letters_fit = told short_step short_past by_first LettersFit fits_letters

-- the header is one byte of those passed by their first byte
module _ (s : List ℕ) (at : Place) (left : Budget) (r : Short) (place : Place) (rest : Budget) (body : Place)
    (string : Bool) (q : r ≡ short_step s at.0 left) (p : r ≡ Some (place, rest, body, string)) (h : at.0 < length s)
    (headers charge signs : ℕ) (last : Places) (i : Tallying s headers charge signs at.0 last)
    (full : left ≡ record { 0 = unlimited }) (l : length s ≤ 16_777_216) where
  one_more : another headers (body.0 - at.0) ≡ headers + 0x4000_0001
  one_more = let o = short_alone s at left r place rest body string q p h in omega arith

  pub short_heads_fit : Fits w64 (headers + 0x4000_0001)
  short_heads_fit =
      subst (Fits w64) one_more
      (told short_step short_past by_first HeadsFit fits_heads s at left r place rest body string q p h headers charge
      signs last i full l)

  pub short_tally : (n : ℕ) → n + body.0 ≤ place.0 →
      n ≡ pick string (letters (take (place.0 - body.0) (drop body.0 s))) 0 →
      Tallying s (headers + 0x4000_0001) (charge + (unlimited - rest.0)) (signs + n) place.0 (last_of s at place)
  short_tally n most e =
      rw (← one_more)
      (told short_step short_past by_first Tallies tallies s at left r place rest body string q p h headers charge signs
      last i full l n most e)

module _ (s : List ℕ) (headers charge signs : ℕ) (at : Place) (last : Places)
    (i : Tallying s headers charge signs at.0 last) where
  -- refused by the step
  pub tally_stops : (answer : TallyAnswer) (r : Step) (end : Place) (rest : Budget) (why : Refusal) →
      answer ≡ TA.Stopped last why at → at.0 < length s → r ≡ stepped s at.0 (record { 0 = unlimited }) →
      r ≡ Err (end, rest, why) → answer ≡ tally_from (suc (length s)) s 0 nothing no_places
  tally_stops answer r end rest why e h q p =
      e
      ∙ walk_answers tallying s _ _ at.0 _ i.walked _
      (λ fuel later k. tally_stop s fuel later at.0 _ last k end rest why h
      (told_refused s at.0 (record { 0 = unlimited }) end rest why (sym q ∙ p)))

  -- the end of the file
  pub tally_ends : (places : Places) (r : TallyAnswer) →
      r ≡ TA.Done places (tallied (many headers) (at.0 - taken headers) charge signs) → places ≡ last →
      length s ≤ at.0 →
      r ≡ tally_from (suc (length s)) s 0 nothing no_places
  tally_ends places r e l h =
      e
      ∙ ap (λ (x : Places). TA.Done x (tallied (many headers) (at.0 - taken headers) charge signs)) l
      ∙ walk_answers tallying s _ _ at.0 _ i.walked _
      (λ fuel later k. tally_end s fuel later at.0 _ last k h)

pub ruleset step_passed =
    (step_starts, step_begins, step_inside, step_falls, step_less, head_fits, heads_fit, charge_fits, letters_fit)

pub ruleset short_passed =
    (short_starts, short_inside, short_falls, short_less, short_heads_fit)

pub ruleset tally_turns = (short_charge_fits, short_letters_fit, short_tally, step_tally)

pub ruleset tally_laws = (tally_begins, short_passed, step_passed, tally_turns, tally_stops, tally_ends, rules)
