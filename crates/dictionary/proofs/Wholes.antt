-- The step at a whole, known atom, with a budget that covers its charge; and at bytes that start with no such atom, or
-- with one that the budget does not cover.
use Rattle.std.specs.Prelude.{Ok, Err}
use mathlib.Core.Path.{◌≡◌, refl, ◌∙◌, sym, ap}
use mathlib.Core.Bool.{Bool, true, false}
use mathlib.Core.List.{List, ◌++◌}
use Prim.Native.Nat.{ℕ, ◌+◌, ◌-◌, ◌≤◌, ◌<◌}
use native.Mathlib.Omega.{arith}
use borrow.Author.Tests.{le-ltb, ltb-false}
use lib.Dec.{ltb}
use lib.ListN.{length, take, drop, length-append, length-drop}
use lib.Seq.{drop-drop, drop-append_seam, drop-append-le, take_at}
use Rattle.types.specs.Choice.{pick}
use Rattle.types.specs.Counters.{places_of}
use Rattle.types.specs.Forms.{known, is_string, unknown}
use Rattle.types.specs.declared.Kind.{Kind}
use Rattle.types.specs.declared.Budget.{Budget}
use Rattle.types.specs.declared.Refusal.{Refusal}
use Rattle.types.specs.declared.Refusal.TheVariants as R
use Rattle.types.specs.declared.Tallied.{Tallied}
use Rattle.header.specs.Header.{header_kind, header_argument, header_length}
use Rattle.header.proofs.Fewest.{length_bounds, argument_word}
use Rattle.letters.specs.Letters.{letters}
use Rattle.dictionary.specs.Wholes.{IsAtom, price, body_bytes, letters_in, places_at, Spoilt}
use Rattle.dictionary.specs.Wholes.{cut_header, unknown_atom, cut_body}
use Rattle.dictionary.specs.Prices.{asked, Barred, header_cut, over_budget, form_unknown, body_cut}
use Rattle.dictionary.specs.Steps.{skipped, body_past, body_after}
use Rattle.dictionary.specs.Runs.{tallied, unlimited, added}
use Rattle.dictionary.proofs.Bodies.{past_over, past_unknown, past_eof, past_whole}
use Rattle.dictionary.proofs.Steps.{Past, step_cut, step_body, charge_word}
use Rattle.dictionary.proofs.Fronts.{Front, front}

same_body : (n first left : ℕ) (k l : Kind) (a b h i : ℕ) → k ≡ l → a ≡ b → h ≡ i →
    body_after n k a first h left ≡ body_after n l b first i left
same_body n first left k l a b h i p q r =
    ap (λ (x : Kind). body_after n x a first h left) p ∙ ap (λ (x : ℕ). body_after n l x first h left) q
    ∙ ap (λ (x : ℕ). body_after n l b first x left) r

-- the largest budget covers every charge
pub price_word : (bytes : List ℕ) → price bytes ≤ unlimited
price_word bytes = charge_word (header_kind bytes) (header_argument bytes) (argument_word bytes)

-- an atom has a byte at least
pub atom_some : (atom : List ℕ) → IsAtom atom → 1 ≤ length atom
atom_some atom w = let b = (length_bounds atom).0 in let h = w.its_header in omega arith

module _ (s : List ℕ) (at : ℕ) (within : at ≤ length s) (atom rest : List ℕ) (here : drop at s ≡ atom ++ rest)
    (w : IsAtom atom) where
  size : length s ≡ at + (length atom + length rest)
  size =
      let e : length s - at ≡ length atom + length rest =
      sym (length-drop at s) ∙ ap length here ∙ length-append atom rest
      in
      omega arith

  pub atom_within : at + length atom ≤ length s
  atom_within = omega (arith, size)

  -- what follows it
  pub atom_next : drop (at + length atom) s ≡ rest
  atom_next = sym (drop-drop (length atom) at s) ∙ ap (drop (length atom)) here ∙ drop-append_seam atom rest

  its_front : Front atom rest
  its_front = front atom rest w.its_header

  header_there : header_length (drop at s) ≡ header_length atom
  header_there = ap header_length here ∙ its_front.same_length

  header_room : at + header_length (drop at s) ≤ length s
  header_room = let a = header_there in let b = w.its_header in omega (arith, size)

  body_there : (budget : Budget) →
      skipped s at budget
      ≡ body_after (length s) (header_kind atom) (header_argument atom) at (at + header_length atom) budget.0
  body_there budget =
      step_body s at within budget header_room
      ∙ same_body (length s) at budget.0 (header_kind (drop at s)) (header_kind atom) (header_argument (drop at s))
      (header_argument atom) (at + header_length (drop at s)) (at + header_length atom)
      (ap header_kind here ∙ its_front.same_kind) (ap header_argument here ∙ its_front.same_argument)
      (ap (λ (n : ℕ). at + n) header_there)

  past_end : at + header_length atom + body_bytes atom ≡ at + length atom
  past_end = let e = w.its_length in omega arith

  -- its charge is within the budget: it is passed, and costs its price
  pub atom_past : (budget : Budget) → price atom ≤ budget.0 →
      Past s at budget (record { 0 = at + length atom }) (record { 0 = budget.0 - price atom }) (places_at at atom)
      (is_string (header_kind atom))
  atom_past budget h =
      let k : Kind = header_kind atom in
      let room : at + header_length atom + body_bytes atom ≤ length s = omega (arith, past_end, atom_within) in
      record {
        is =
            body_there budget
            ∙ ap (λ (t : Bool). body_past (length s) at (at + header_length atom) budget.0 (is_string k)
            (body_bytes atom) (price atom) t (unknown k (header_argument atom))) w.its_kind
            ∙ past_whole (length s) at (at + header_length atom) budget.0 (is_string k) (body_bytes atom) (price atom)
            (unknown k (header_argument atom)) h room
            ∙ ap (λ (n : ℕ). Ok (record { 0 = n }, record { 0 = budget.0 - price atom }, places_of (record { 0 = at }) (record { 0 = at + header_length atom }) (record { 0 = n }), is_string k))
            past_end;
      }

-- what the tally adds for it
abbrev pub plus : Tallied → List ℕ → Tallied
plus t atom = record {
  atoms = t.atoms + 1;
  body = record { 0 = t.body.0 + body_bytes atom };
  charge = t.charge + price atom;
  letters = t.letters + letters_in atom;
}

body_length_lem : (at n h b : ℕ) → n ≡ h + b → at + n - (at + h) ≡ b
body_length_lem at n h b e = omega arith

spent : (p : ℕ) → p ≤ 0xFFFF_FFFF_FFFF_FFFF → 0xFFFF_FFFF_FFFF_FFFF - (0xFFFF_FFFF_FFFF_FFFF - p) ≡ p
spent p h = omega arith

module _ (s : List ℕ) (at : ℕ) (atom rest : List ℕ) (here : drop at s ≡ atom ++ rest) (w : IsAtom atom) where
  body_bytes_lem : take (at + length atom - (at + header_length atom)) (drop (at + header_length atom) s)
      ≡ drop (header_length atom) atom
  body_bytes_lem =
      let h = header_length atom in
      let there : drop (at + h) s ≡ drop h atom ++ rest =
      sym (drop-drop h at s) ∙ ap (drop h) here ∙ drop-append-le h atom rest w.its_header
      in
      let n : length (drop h atom) ≡ at + length atom - (at + h) = length-drop h atom ∙ span at (length atom) h in
      ap (take (at + length atom - (at + h))) there ∙ take_at (drop h atom) rest (at + length atom - (at + h)) n
    where
      span : (at n h : ℕ) → n - h ≡ at + n - (at + h)
      span at n h = omega arith

  pub added_plus : (t : Tallied) →
      added s t (at + length atom) (unlimited - price atom) (at + header_length atom) (is_string (header_kind atom))
      ≡ plus t atom
  added_plus t =
      ap (λ (x : ℕ). tallied (t.atoms + 1) (t.body.0 + x) (t.charge + (unlimited - (unlimited - price atom)))
      (t.letters + pick (is_string (header_kind atom))
      (letters (take (at + length atom - (at + header_length atom)) (drop (at + header_length atom) s))) 0))
      (body_length_lem at (length atom) (header_length atom) (body_bytes atom) w.its_length)
      ∙ ap (λ (x : ℕ). tallied (t.atoms + 1) (t.body.0 + body_bytes atom) (t.charge + x)
      (t.letters + pick (is_string (header_kind atom))
      (letters (take (at + length atom - (at + header_length atom)) (drop (at + header_length atom) s))) 0))
      (spent (price atom) (price_word atom))
      ∙ ap (λ (x : List ℕ). tallied (t.atoms + 1) (t.body.0 + body_bytes atom) (t.charge + price atom)
      (t.letters + pick (is_string (header_kind atom)) (letters x) 0)) body_bytes_lem

-- ---- bytes whose first atom is refused

room_of_lem : (s at n : ℕ) → at ≤ s → n ≤ s - at → at + n ≤ s
room_of_lem s at n h k = omega arith

past_of : (s at n : ℕ) → at ≤ s → s - at < n → s < at + n
past_of s at n h k = omega arith

past_both : (s at h b : ℕ) → at ≤ s → s - at < h + b → s < at + h + b
past_both s at h b p k = omega arith

module _ (s : List ℕ) (at : ℕ) (within : at ≤ length s) (l : List ℕ) (here : drop at s ≡ l) (left : ℕ) where
  rest_length : length l ≡ length s - at
  rest_length = ap length (sym here) ∙ length-drop at s

  rest_end : length s ≡ at + length l
  rest_end = omega (arith, rest_length)

  -- a header that is whole: the step is what the body does
  body_at : {t : Bool} → header_length l ≤ length l → known (header_kind l) (header_argument l) ≡ t →
      skipped s at (record { 0 = left })
      ≡ body_past (length s) at (at + header_length l) left (is_string (header_kind l)) (body_bytes l) (price l) t
      (unknown (header_kind l) (header_argument l))
  body_at h k =
      step_body s at within (record { 0 = left })
      (room_of_lem (length s) at (header_length (drop at s)) within (rw (← rest_length, here) h))
      ∙ ap (λ (x : List ℕ). body_after (length s) (header_kind x) (header_argument x) at (at + header_length x) left) here
      ∙ ap (λ (t : Bool). body_past (length s) at (at + header_length l) left (is_string (header_kind l)) (body_bytes l)
      (price l) t (unknown (header_kind l) (header_argument l))) k

  -- the step refuses, with the refusal of what stands there
  pub barred_refuses : {why : Refusal} {past charge : ℕ} → Barred l left why past charge →
      skipped s at (record { 0 = left }) ≡ Err (record { 0 = at + past }, record { 0 = left - charge }, why)
  barred_refuses (header_cut h) =
      let a = rest_end in
      let b : left ≡ left - 0 = omega arith in
      let e = step_cut s at within (record { 0 = left })
      (past_of (length s) at (header_length (drop at s)) within (rw (← rest_length, here) h)) in
      cc
  barred_refuses (over_budget h c) =
      let b : left ≡ left - 0 = omega arith in
      let e = body_at h refl
      ∙ past_over (length s) at (at + header_length l) left (is_string (header_kind l)) (body_bytes l) (price l)
      (unknown (header_kind l) (header_argument l)) (known (header_kind l) (header_argument l)) c in
      cc
  barred_refuses (form_unknown h c k) =
      body_at h k
      ∙ past_unknown (length s) at (at + header_length l) left (is_string (header_kind l)) (body_bytes l) (price l)
      (unknown (header_kind l) (header_argument l)) c
  barred_refuses (body_cut h c k m) =
      let a = rest_end in
      let e = body_at h k
      ∙ past_eof (length s) at (at + header_length l) left (is_string (header_kind l)) (body_bytes l) (price l)
      (unknown (header_kind l) (header_argument l)) c
      (past_both (length s) at (header_length l) (body_bytes l) within (rw (← rest_length) m)) in
      cc

-- a budget that covers what is asked there: the refusal is that of bytes that start with no whole, known atom
pub record Bars (l : List ℕ) (left : ℕ) (why : Refusal) : Type 0 where
  pub past : ℕ
  pub charge : ℕ
  pub bars : Barred l left why past charge

there_asks : (l : List ℕ) → header_length l ≤ length l → asked l ≡ price l
there_asks l h = simp (le-ltb (length l) (header_length l) h)

pub spoilt_bars : (l : List ℕ) (left : ℕ) (why : Refusal) → Spoilt l why → asked l ≤ left → Bars l left why
spoilt_bars l left why (cut_header h) c = record { past = length l; charge = 0; bars = header_cut h }
spoilt_bars l left why (unknown_atom h k) c =
    let e = there_asks l h in
    record { past = header_length l; charge = price l; bars = form_unknown h (omega arith) k }
spoilt_bars l left why (cut_body h k m) c =
    let e = there_asks l h in
    record { past = length l; charge = price l; bars = body_cut h (omega arith) k m }

-- one that does not: 5
pub dear_bars : (l : List ℕ) (left : ℕ) → left < asked l → Bars l left R.TooManyBytesRead
dear_bars l left c = by (ltb (length l) (header_length l)) refl
  where
    by : (t : Bool) → ltb (length l) (header_length l) ≡ t → Bars l left R.TooManyBytesRead
    by true e = let k : left < 0 = rw e at c in absurd (omega arith)
    by false e =
        let h = ltb-false (length l) (header_length l) e in
        let k = there_asks l h in
        record { past = header_length l; charge = 0; bars = over_budget h (omega arith) }

-- the largest budget covers it
pub asked_word : (l : List ℕ) → asked l ≤ unlimited
asked_word l = by (ltb (length l) (header_length l)) (price_word l)
  where
    by : (t : Bool) → price l ≤ unlimited → pick t 0 (price l) ≤ unlimited
    by true h = omega arith
    by false h = h
