-- The ends of the step: what each of its functions has in hand at a return, and what it answers there.
use Rattle.std.specs.Prelude.{Result, Ok, Err}
use mathlib.Core.Path.{◌≡◌, refl, ◌∙◌, sym, ap, subst}
use mathlib.Core.Bool.{Bool, true, false}
use mathlib.Core.List.{List}
use Prim.Native.Nat.{ℕ, ◌+◌, ◌-◌, ◌≤◌, ◌<◌}
use native.Mathlib.Omega.{arith}
use borrow.Author.Rules.{rules}
use borrow.Author.Tests.{lt-ltb}
use lib.ListN.{length}
use Rattle.dictionary.specs.Steps.{Step}
use Rattle.types.specs.Counters.{place_in, places_of}
use Rattle.types.specs.Kinds.{special_from}
use Rattle.types.specs.Forms.{allowed_count, allowed_float, count_of, number_charge, unsupported, known, body_length}
use Rattle.types.specs.Forms.{charge_of, is_string, unknown}
use Rattle.types.specs.declared.Way.TheVariants as W
use Rattle.types.specs.declared.Kind.{Kind}
use Rattle.types.specs.declared.Kind.TheVariants as K
use Rattle.types.specs.declared.Place.{Place}
use Rattle.types.specs.declared.Places.{Places}
use Rattle.types.specs.declared.Budget.{Budget}
use Rattle.types.specs.declared.Special.{Special}
use Rattle.types.specs.declared.Refusal.{Refusal}
use Rattle.types.specs.declared.Refusal.TheVariants as R
use Rattle.header.specs.Header.{header_read}
use Rattle.header.proofs.Places.{header_place, header_place_lem}
use Rattle.reader.specs.Strings.{start_of}
use Rattle.reader.proofs.Strings.{start_within}
use Rattle.atom.specs.Charges.{budget_after}
use Rattle.atom.specs.Atoms.{with_budget, atom_read, first_place}
use Rattle.atom.proofs.Ends.{with_budget_ok, with_budget_err}
use Rattle.types.proofs.Arms.{OfIntegers, two_kinds, OfHeaders, three_kinds}
use Rattle.dictionary.specs.Steps.{skipped, past, lean, stepped, body_step, step_after}
use Rattle.dictionary.proofs.Bodies.{over, afforded, past_over, past_unknown, past_eof, past_whole, header_only, special_past, special_other}
use Rattle.dictionary.proofs.Bodies.{after_header, any_first}
use Rattle.dictionary.proofs.Steps.{told_past, told_refused}

-- a body whose charge was judged: it exceeds the budget
module _ (size : ℕ) (at : Place) (left : Budget) (string : Bool) (len price charge : ℕ) (allowed : Bool)
    (why : Refusal) (paid : Result Budget Refusal) (priced : charge ≡ price) (p : paid ≡ budget_after left charge) where
  pub body_over_budget : (r : Refusal) → paid ≡ Err r →
      Err (at, left, R.TooManyBytesRead) ≡ body_step size at.0 left.0 string len price allowed why
  body_over_budget r e =
      cc (ap lean (past_over size at.0 at.0 left.0 string len charge why allowed
      (over left charge r (sym p ∙ e))))

  module _ (rest : Budget) (l : paid ≡ Ok rest) where
    -- it does not, and the atom is not known
    pub body_unknown : (refusal : Refusal) → refusal ≡ why → allowed ≡ false →
        Err (at, rest, refusal) ≡ body_step size at.0 left.0 string len price allowed why
    body_unknown refusal w f =
        let b = afforded left charge rest (sym p ∙ l) in
        cc (b.1, ap lean (past_unknown size at.0 at.0 left.0 string len charge why b.0))

    -- it is: its bytes are cut, or whole
    module _ (k : allowed ≡ true) (inside : at.0 ≤ size) where
      pub body_cut : size - at.0 < len →
          Err (record { 0 = size }, rest, R.Eof) ≡ body_step size at.0 left.0 string len price allowed why
      body_cut h =
          let b = afforded left charge rest (sym p ∙ l) in
          cc (b.1, ap lean (past_eof size at.0 at.0 left.0 string len charge why b.0 (omega arith)))

      pub body_whole : len ≤ size - at.0 →
          Ok (record { 0 = at.0 + len }, rest, at, string)
          ≡ body_step size at.0 left.0 string len price allowed why
      body_whole h =
          let b = afforded left charge rest (sym p ∙ l) in
          cc (b.1, ap lean (past_whole size at.0 at.0 left.0 string len charge why b.0 (omega arith)))

pub ruleset body_ends = (body_over_budget, body_unknown, body_cut, body_whole, rules)

-- Int and UInt, by the tag that led there
integral : (size at left : ℕ) (kind : Kind) (arg : ℕ) → OfIntegers kind →
    body_step size at left false (count_of arg) (number_charge (count_of arg)) (allowed_count (count_of arg))
    (unsupported kind (count_of arg))
    ≡ step_after size kind arg at left
integral size at left kind arg h =
    two_kinds (λ k. body_step size at left false (count_of arg) (number_charge (count_of arg))
    (allowed_count (count_of arg)) (unsupported k (count_of arg))
    ≡ step_after size k arg at left) refl refl kind h

-- an atom of its header only: a sequence, a map, a symbol, a special that is known; and one that is not
module _ (size : ℕ) (kind : Kind) (arg : ℕ) (at : Place) (left : Budget) where
  header_step : (k : Kind) → kind ≡ k → known k arg ≡ true → body_length k arg ≡ 0 → charge_of k arg ≡ 0 →
      is_string k ≡ false → at.0 ≤ size → past at left at false ≡ step_after size kind arg at.0 left.0
  header_step k e Known-is none free no_string within =
      ap lean (header_only size kind arg at at left k e Known-is none free no_string within)

  pub header_alone : OfHeaders kind → at.0 ≤ size → past at left at false ≡ step_after size kind arg at.0 left.0
  header_alone h within =
      three_kinds (λ k. kind ≡ k → past at left at false ≡ step_after size kind arg at.0 left.0)
      (λ e. header_step K.Sequence e refl refl refl refl within) (λ e. header_step K.Map e refl refl refl refl within)
      (λ e. header_step K.Symbol e refl refl refl refl within) kind h refl

  module _ (k : kind ≡ K.Special) (got : Result Special Refusal) (g : got ≡ special_from arg) where
    pub special_step : (special : Special) → got ≡ Ok special → at.0 ≤ size →
        Ok (at, left, at, false) ≡ step_after size kind arg at.0 left.0
    special_step special e within = ap lean (special_past size kind arg at at left k got g special e within)

    pub special_stop : (why : Refusal) → got ≡ Err why →
        Err (at, left, why) ≡ step_after size kind arg at.0 left.0
    special_stop why e = ap lean (special_other size kind arg at at left k got g why e)

-- a body of bytes, by its header's kind: what `skip_number` and `skip_bytes` answer of it
module _ (size : ℕ) (kind : Kind) (arg at left : ℕ) (r : Step) where
  module _ (count : ℕ) (allowed : Bool) (counted : count ≡ count_of arg)
      (e : r ≡ body_step size at left false count (number_charge count) allowed (unsupported kind count)) where
    pub integer_body_lem : OfIntegers kind → allowed ≡ allowed_count count →
        r ≡ step_after size kind arg at left
    integer_body_lem k a = cc (integral size at left kind arg k)

    pub float_body_lem : kind ≡ K.Float → allowed ≡ allowed_float count → r ≡ step_after size kind arg at left
    float_body_lem k a = rw (k, ← counted, ← a) (rw k at e)

  pub string_body : kind ≡ K.Bytes → r ≡ body_step size at left true arg arg true R.Eof →
      r ≡ step_after size kind arg at left
  string_body k e = rw k e

pub ruleset kind_ends =
    (header_alone, special_step, special_stop, integer_body_lem, float_body_lem, string_body, lt-ltb, rules)

-- an atom, once its header is read
module _ (s : List ℕ) (place : ℕ) (budget : Budget) (header : Result (Place × Kind × ℕ) (Place × Budget × Refusal))
    (read : header ≡ with_budget budget (header_read W.ExactLent s place)) where
  module _ (next : Place) (kind : Kind) (arg : ℕ) (e : header ≡ Ok (next, kind, arg)) where
    taken : header_read W.ExactLent s place ≡ Ok (next, kind, arg)
    taken = with_budget_ok budget (header_read W.ExactLent s place) (next, kind, arg) (sym read ∙ e)

    -- the body is within the source
    pub body_within : next.0 ≤ length s
    body_within =
        subst (λ (n : ℕ). n ≤ length s) (ap header_place taken)
        (header_place_lem W.ExactLent s (start_of s place) (start_within s place)).1

    -- what the body does
    pub atom_body : (r : Step) → r ≡ step_after (length s) kind arg next.0 budget.0 → r ≡ stepped s place budget
    unfolding stepped skipped atom_read
    atom_body r b =
        let same = any_first (length s) next.0 (place_in (length s) place) next.0 budget.0 (is_string kind)
        (body_length kind arg) (charge_of kind arg) (unknown kind arg) (known kind arg) in
        let x = ap lean (after_header s arg (first_place s place) next budget kind body_within) in
        cc (taken)

  -- the header is refused
  pub header_refused : (w : Place × Budget × Refusal) → header ≡ Err w → Err w ≡ stepped s place budget
  unfolding stepped skipped atom_read
  header_refused w e =
      let refused = with_budget_err budget (header_read W.ExactLent s place) w (sym read ∙ e) in
      cc (refused.0, refused.1)

pub ruleset atom_ends = (body_within, atom_body, header_refused, rules)

-- the ends of `skip_atom`, by what the step told
module _ (s : List ℕ) (place : ℕ) (budget : Budget) (got : Step) (g : got ≡ stepped s place budget) where
  pub skip_past : (after : Place) (rest : Budget) (body : Place) (t : Bool) (first : ℕ) (places : Places) →
      places ≡ places_of (record { 0 = first }) body after → got ≡ Ok (after, rest, body, t) →
      first ≡ place_in (length s) place → Ok (after, rest, places, t) ≡ skipped s place budget
  skip_past after rest body t first places p e f = cc (told_past s place budget after rest body t (sym g ∙ e))

  pub skip_refused : (w : Place × Budget × Refusal) → got ≡ Err w → Err w ≡ skipped s place budget
  skip_refused w e = sym (told_refused s place budget w.0 w.1 w.2 (sym g ∙ e))

pub ruleset skip_ends = (skip_past, skip_refused, rules)
