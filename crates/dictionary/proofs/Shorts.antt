-- The atoms that the run and the tally pass by their first byte alone: what the step does at a header of one byte.
use Rattle.std.specs.Prelude.{Result, Ok, Err, Some, None}
use mathlib.Core.Path.{◌≡◌, refl, ◌∙◌, sym, ap}
use mathlib.Core.Bool.{Bool, true, false, false≢true}
use mathlib.Core.List.{List, ◌∷◌}
use Prim.Native.Nat.{ℕ, suc, ◌+◌, ◌-◌, ◌/◌, ◌%◌, ◌≤◌, ◌<◌}
use native.Mathlib.Omega.{arith}
use lib.Dec.{ltb, eqb}
use lib.ListN.{length, drop, get_or}
use lib.Seq.{drop-cons}
use borrow.Author.Rules.{rules}
use borrow.Author.Tests.{ltb-true, ltb-false, eqb-true, ne_eqb}
use Rattle.dictionary.specs.Steps.{Short, Step, short_past}
use Rattle.types.specs.Choice.{pick}
use Rattle.types.specs.Kinds.{kind_from, kind_known}
use Rattle.types.specs.Forms.{listed, allowed_count, number_charge, known, body_length, charge_of, is_string, unknown}
use Rattle.types.specs.declared.Kind.{Kind}
use Rattle.types.specs.declared.Kind.TheVariants as K
use Rattle.types.specs.declared.Place.{Place}
use Rattle.types.specs.declared.Places.{Places}
use Rattle.types.specs.declared.Budget.{Budget}
use Rattle.types.specs.declared.Refusal.{Refusal}
use Rattle.types.specs.declared.Refusal.TheVariants as R
use Rattle.header.specs.Header.{more_follow, header_kind, header_argument, header_length}
use Rattle.header.proofs.Answers.{one_length, one_argument}
use Rattle.atom.specs.Charges.{budget_after}
use Rattle.dictionary.specs.Steps.{skipped, body_past, body_after, lean, stepped, body_step, past_alone, short_byte}
use Rattle.dictionary.specs.Steps.{short_step}
use Rattle.dictionary.proofs.Bodies.{over, afforded, past_over, past_eof, past_whole, any_first, passed}
use Rattle.dictionary.proofs.Steps.{step_body, told_past, Told, Telling, told, Starts, Inside, Falls, Less}
use Rattle.dictionary.proofs.Steps.{starts, inside, falls, less}

-- a known body after a header of one byte
module _ (size : ℕ) (at : Place) (left : Budget) (string : Bool) (len charge : ℕ) where
  -- its bytes are cut: it is refused, for that or for its charge
  cut_at : (t : Bool) → ltb left.0 charge ≡ t → size < at.0 + 1 + len →
      None ≡ past_alone (body_step size (at.0 + 1) left.0 string len charge true R.Eof)
  cut_at true e h =
      cc (ap lean (past_over size (at.0 + 1) (at.0 + 1) left.0 string len charge R.Eof true
      (ltb-true left.0 charge e)))
  cut_at false e h =
      cc (ap lean (past_eof size (at.0 + 1) (at.0 + 1) left.0 string len charge R.Eof
      (ltb-false left.0 charge e) h))

  module _ (within : at.0 < size) where
    pub short_cut : size - (at.0 + 1) < len →
        None ≡ past_alone (body_step size (at.0 + 1) left.0 string len charge true R.Eof)
    short_cut h = cut_at (ltb left.0 charge) refl (omega arith)

    -- they are there: its charge exceeds the budget, or does not
    module _ (h : len ≤ size - (at.0 + 1)) (paid : Result Budget Refusal) (p : paid ≡ budget_after left charge) where
      pub short_dear : (r : Refusal) → paid ≡ Err r →
          None ≡ past_alone (body_step size (at.0 + 1) left.0 string len charge true R.Eof)
      short_dear r e =
          cc (ap lean (past_over size (at.0 + 1) (at.0 + 1) left.0 string len charge R.Eof true
          (over left charge r (sym p ∙ e))))

      pub short_whole : (rest : Budget) → paid ≡ Ok rest →
          Some (record { 0 = at.0 + 1 + len }, rest, record { 0 = at.0 + 1 }, string)
          ≡ past_alone (body_step size (at.0 + 1) left.0 string len charge true R.Eof)
      short_whole rest e =
          let b = afforded left charge rest (sym p ∙ e) in
          cc (
            b.1,
            ap lean (past_whole size (at.0 + 1) (at.0 + 1) left.0 string len charge R.Eof b.0
                (omega arith)),
          )

pub ruleset short_body_ends = (short_cut, short_dear, short_whole, rules)

one_known : allowed_count 1 ≡ true
unfolding listed
one_known = refl

-- why an atom would be refused that is known makes no difference
known_any : (size first at left : ℕ) (string : Bool) (len charge : ℕ) (allowed : Bool) (why other : Refusal) →
    allowed ≡ true →
    body_past size first at left string len charge allowed why
    ≡ body_past size first at left string len charge true other
unfolding body_past
known_any size first at left string len charge allowed why other k = rw k refl

module _ (s : List ℕ) (at : ℕ) (left : Budget) (within : at < length s) where
  -- the step there is what the body does
  alone : more_follow (get_or s at 0) ≡ false →
      skipped s at left
      ≡ body_after (length s) (kind_known (kind_from (get_or s at 0 / 32))) (get_or s at 0 % 16) at (at + 1) left.0
  alone m =
      let b = get_or s at 0 in
      let d : drop at s ≡ b ∷ drop (suc at) s = drop-cons s at 0 within in
      let one : header_length (drop at s) ≡ 1 = ap header_length d ∙ one_length b (drop (suc at) s) m in
      let arg : header_argument (drop at s) ≡ b % 16 = ap header_argument d ∙ one_argument b (drop (suc at) s) m in
      let kind : header_kind (drop at s) ≡ kind_known (kind_from (b / 32)) = ap header_kind d in
      cc (step_body s at (omega arith) left (omega arith))

  -- an atom of a known kind, by its body's length, its charge and whether it is a string
  short_of : (kind : Kind) (string : Bool) (count charge : ℕ) (answer : Short) → short_byte (get_or s at 0) ≡ true →
      more_follow (get_or s at 0) ≡ false → kind_known (kind_from (get_or s at 0 / 32)) ≡ kind →
      known kind (get_or s at 0 % 16) ≡ true → body_length kind (get_or s at 0 % 16) ≡ count →
      charge_of kind (get_or s at 0 % 16) ≡ charge → is_string kind ≡ string →
      answer ≡ past_alone (body_step (length s) (at + 1) left.0 string count charge true R.Eof) →
      answer ≡ short_step s at left
  unfolding short_step stepped
  short_of kind string count charge answer short m k Known-is long costs is-string e =
      let same =
      known_any (length s) at (at + 1) left.0 (is_string kind) (body_length kind (get_or s at 0 % 16))
      (charge_of kind (get_or s at 0 % 16)) (known kind (get_or s at 0 % 16)) (unknown kind (get_or s at 0 % 16)) R.Eof
      Known-is
      in
      let told =
      any_first (length s) at (at + 1) (at + 1) left.0 string count charge R.Eof true
      in
      cc (ap lean (alone m), ap lean same)

  -- a UInt of one byte
  pub short_uint : (charge : ℕ) (answer : Short) → get_or s at 0 ≡ 0x40 → charge ≡ number_charge 1 →
      answer ≡ past_alone (body_step (length s) (at + 1) left.0 false 1 charge true R.Eof) →
      answer ≡ short_step s at left
  short_uint charge answer b c e =
      short_of K.UInt false 1 charge answer (ap short_byte b) (ap more_follow b)
      (ap (λ (n : ℕ). kind_known (kind_from (n / 32))) b) (rw b one_known) (rw b refl)
      (ap (λ (n : ℕ). charge_of K.UInt (n % 16)) b ∙ sym c) refl e

  -- a string
  pub short_string : (answer : Short) → get_or s at 0 / 16 ≡ 14 →
      answer
      ≡ past_alone (body_step (length s) (at + 1) left.0 true (get_or s at 0 % 16) (get_or s at 0 % 16) true R.Eof) →
      answer ≡ short_step s at left
  short_string answer b e =
      let seven : get_or s at 0 / 32 ≡ 7 = omega arith in
      let other : get_or s at 0 ≡ 0x40 → ⊥ = λ x. omega arith in
      short_of K.Bytes true (get_or s at 0 % 16) (get_or s at 0 % 16) answer
      (rw (ne_eqb (get_or s at 0) 0x40 other, b) refl) (ap (λ (n : ℕ). eqb (n % 2) 1) b)
      (ap (λ (n : ℕ). kind_known (kind_from n)) seven) refl refl refl refl e

  -- a sequence
  pub short_sequence : (answer : Short) → get_or s at 0 / 16 ≡ 8 →
      answer ≡ past_alone (body_step (length s) (at + 1) left.0 false 0 0 true R.Eof) → answer ≡ short_step s at left
  short_sequence answer b e =
      let four : get_or s at 0 / 32 ≡ 4 = omega arith in
      let other : get_or s at 0 ≡ 0x40 → ⊥ = λ x. omega arith in
      short_of K.Sequence false 0 0 answer (rw (ne_eqb (get_or s at 0) 0x40 other, b) refl)
      (ap (λ (n : ℕ). eqb (n % 2) 1) b) (ap (λ (n : ℕ). kind_known (kind_from n)) four) refl refl refl refl e

  -- any other
  pub not_short : (get_or s at 0 ≡ 0x40 → ⊥) → (get_or s at 0 / 16 ≡ 14 → ⊥) → (get_or s at 0 / 16 ≡ 8 → ⊥) →
      None ≡ short_step s at left
  unfolding short_step
  not_short a b c = simp (ne_eqb (get_or s at 0) 0x40 a, ne_eqb (get_or s at 0 / 16) 14 b, ne_eqb (get_or s at 0 / 16) 8 c)

pub ruleset short_ends = (short_uint, short_string, short_sequence, not_short, rules)

-- what was passed so, the step passes
past_at : (place : Place) (rest : Budget) (body : Place) (t u : Bool) (step : Step) →
    pick u (past_alone step) None ≡ Some (place, rest, body, t) → step ≡ Ok (place, rest, body, t)
past_at place rest body t true (Ok (p, b, q, v)) e = cc
past_at place rest body t true (Err (p, b, r)) e = absurd (false≢true cc)
past_at place rest body t false step e = absurd (false≢true cc)

pub by_first : Telling short_step short_past
unfolding short_step
by_first s at left place rest body t e = past_at place rest body t (short_byte (get_or s at 0)) (stepped s at left) e

-- its header is that byte alone
one_byte : (b : ℕ) (t u v : Bool) → eqb b 0x40 ≡ t → eqb (b / 16) 14 ≡ u → eqb (b / 16) 8 ≡ v →
    pick t true (pick u true v) ≡ true → more_follow b ≡ false
one_byte b true u v e f g k = ap more_follow (eqb-true b 0x40 e)
one_byte b false true v e f g k = ap (λ (n : ℕ). eqb (n % 2) 1) (eqb-true (b / 16) 14 f)
one_byte b false false true e f g k = ap (λ (n : ℕ). eqb (n % 2) 1) (eqb-true (b / 16) 8 g)
one_byte b false false false e f g k = absurd (false≢true k)

passed_first : (place : Place) (rest : Budget) (body : Place) (t u : Bool) (step : Step) →
    pick u (past_alone step) None ≡ Some (place, rest, body, t) → u ≡ true
passed_first place rest body t true step e = refl
passed_first place rest body t false step e = absurd (false≢true cc)

module _ (s : List ℕ) (at : Place) (left : Budget) (r : Short) (place : Place) (rest : Budget) (body : Place)
    (t : Bool) where
  first_byte_lem : short_step s at.0 left ≡ Some (place, rest, body, t) → short_byte (get_or s at.0 0) ≡ true
  unfolding short_step
  first_byte_lem e = passed_first place rest body t (short_byte (get_or s at.0 0)) (stepped s at.0 left) e

  pub short_alone : r ≡ short_step s at.0 left → r ≡ Some (place, rest, body, t) → at.0 < length s →
      body.0 ≡ at.0 + 1
  short_alone q p h =
      let b = get_or s at.0 0 in
      let e = sym q ∙ p in
      let m = one_byte b (eqb b 0x40) (eqb (b / 16) 14) (eqb (b / 16) 8) refl refl refl (first_byte_lem e) in
      let x =
      sym (alone s at.0 left h m)
      ∙ told_past s at.0 left place rest body t (by_first s at.0 left place rest body t e)
      in
      ap (λ (y : Places). y.body.0) (passed _ _ _ _ _ _ _ _ place rest _ t _ x).stands

-- so the loops have of it what they have of a step
pub short_starts : Told short_step short_past Starts
short_starts = told short_step short_past by_first Starts starts

pub short_inside : Told short_step short_past Inside
short_inside = told short_step short_past by_first Inside inside

pub short_falls : Told short_step short_past Falls
short_falls = told short_step short_past by_first Falls falls

pub short_less : Told short_step short_past Less
short_less = told short_step short_past by_first Less less
