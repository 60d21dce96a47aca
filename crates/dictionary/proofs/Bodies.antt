-- What a body does in a step, at each of its ends; and that it is what `read_atom` does there, with the value
-- forgotten.
use Rattle.std.specs.Prelude.{Result, Ok, Err}
use mathlib.Core.Path.{◌≡◌, refl, ◌∙◌, sym, ap}
use mathlib.Core.Bool.{Bool, true, false, false≢true}
use mathlib.Core.List.{List, []}
use Prim.Native.Nat.{ℕ, ◌+◌, ◌-◌, ◌≤◌, ◌<◌}
use native.Mathlib.Omega.{arith}
use lib.Dec.{ltb, leb}
use lib.ListN.{length}
use borrow.Author.Tests.{lt-ltb, le-ltb, le-leb, lt-leb, ltb-true, ltb-false, leb-true, leb-false}
use Rattle.types.specs.Answers.{AtomAnswer, Skipped}
use Rattle.types.specs.Forms.{count_of, known, body_length, charge_of, is_string}
use Rattle.types.specs.Choice.{pick}
use Rattle.types.specs.Counters.{places_of}
use Rattle.types.specs.Kinds.{special_from}
use Rattle.types.proofs.Answers.{same_ok}
use Rattle.types.proofs.Specials.{special_below, special_above}
use Rattle.types.specs.declared.Way.TheVariants as W
use Rattle.types.specs.declared.Kind.{Kind}
use Rattle.types.specs.declared.Kind.TheVariants as K
use Rattle.types.specs.declared.Place.{Place}
use Rattle.types.specs.declared.Places.{Places}
use Rattle.types.specs.declared.Budget.{Budget}
use Rattle.types.specs.declared.Refusal.{Refusal}
use Rattle.types.specs.declared.Refusal.TheVariants as R
use Rattle.types.specs.declared.Special.{Special}
use Rattle.reader.specs.Strings.{lent_string}
use Rattle.integer.specs.Integers.{integer_body}
use Rattle.float.specs.Floats.{float_body}
use Rattle.atom.specs.Charges.{budget_after}
use Rattle.atom.specs.Atoms.{judged, integer_taken, float_taken, bytes_taken, body_taken, atom_after}
use Rattle.dictionary.specs.Steps.{forgotten, body_past, body_after, lean}

-- a budget that a charge exceeds, and one that it does not
over_at : (b : Budget) (c : ℕ) (r : Refusal) (t : Bool) → ltb b.0 c ≡ t →
    pick {X = Result Budget Refusal} t (Err R.TooManyBytesRead) (Ok (record { 0 = b.0 - c })) ≡ Err r → b.0 < c
over_at b c r true e h = ltb-true b.0 c e
over_at b c r false e h = absurd (false≢true cc)

pub over : (b : Budget) (c : ℕ) (r : Refusal) → budget_after b c ≡ Err r → b.0 < c
over b c r h = over_at b c r (ltb b.0 c) refl h

afforded_at : (b : Budget) (c : ℕ) (rest : Budget) (t : Bool) → ltb b.0 c ≡ t →
    pick {X = Result Budget Refusal} t (Err R.TooManyBytesRead) (Ok (record { 0 = b.0 - c })) ≡ Ok rest →
    (c ≤ b.0) × (record { 0 = b.0 - c } ≡ rest)
afforded_at b c rest true e h = absurd (false≢true cc)
afforded_at b c rest false e h = (ltb-false b.0 c e, cc)

pub afforded : (b : Budget) (c : ℕ) (rest : Budget) → budget_after b c ≡ Ok rest →
    (c ≤ b.0) × (record { 0 = b.0 - c } ≡ rest)
afforded b c rest h = afforded_at b c rest (ltb b.0 c) refl h

-- the four ends of a body
module _ (size first at left : ℕ) (string : Bool) (len charge : ℕ) (why : Refusal) where
  pub past_over : (allowed : Bool) → left < charge →
      body_past size first at left string len charge allowed why
      ≡ Err (record { 0 = at }, record { 0 = left }, R.TooManyBytesRead)
  unfolding body_past
  past_over allowed h = simp (lt-ltb left charge h)

  pub past_unknown : charge ≤ left →
      body_past size first at left string len charge false why
      ≡ Err (record { 0 = at }, record { 0 = left - charge }, why)
  unfolding body_past
  past_unknown h = simp (le-ltb left charge h)

  pub past_eof : charge ≤ left → size < at + len →
      body_past size first at left string len charge true why
      ≡ Err (record { 0 = size }, record { 0 = left - charge }, R.Eof)
  unfolding body_past
  past_eof h k = simp (le-ltb left charge h, lt-leb (at + len) size k)

  pub past_whole : charge ≤ left → at + len ≤ size →
      body_past size first at left string len charge true why
      ≡ Ok (record { 0 = at + len }, record { 0 = left - charge }, places_of (record { 0 = first }) (record { 0 = at }) (record { 0 = at + len }), string)
  unfolding body_past
  past_whole h k = simp (le-ltb left charge h, le-leb (at + len) size k)

-- an atom of its header only: a sequence, a map, a symbol, a special that is known
module _ (size : ℕ) (kind : Kind) (arg : ℕ) (first at : Place) (left : Budget) where
  pub header_only : (k : Kind) → kind ≡ k → known k arg ≡ true → body_length k arg ≡ 0 → charge_of k arg ≡ 0 →
      is_string k ≡ false → at.0 ≤ size →
      Ok (at, left, places_of first at at, false) ≡ body_after size kind arg first.0 at.0 left.0
  unfolding body_past
  header_only k e Known-is none free no_string within =
      let a : at.0 + 0 ≡ at.0 = omega arith in
      let b : left.0 - 0 ≡ left.0 = omega arith in
      rw (e, Known-is, none, free, no_string)
      (simp (le-ltb left.0 0 (omega arith), a, b, le-leb at.0 size within))

  -- a special, by what its argument answers
  module _ (k : kind ≡ K.Special) (got : Result Special Refusal) (g : got ≡ special_from arg) where
    pub special_past : (special : Special) → got ≡ Ok special → at.0 ≤ size →
        Ok (at, left, places_of first at at, false) ≡ body_after size kind arg first.0 at.0 left.0
    special_past special e within =
        header_only K.Special k (special_below arg special (sym g ∙ e)) refl refl refl within

    pub special_other : (why : Refusal) → got ≡ Err why →
        Err (at, left, why) ≡ body_after size kind arg first.0 at.0 left.0
    unfolding body_past
    special_other why e =
        let above = special_above arg why (sym g ∙ e) in
        let b : left.0 - 0 ≡ left.0 = omega arith in
        rw (k, above.1, above.0) (simp (le-ltb left.0 0 (omega arith), b))

module _ (s : List ℕ) (arg : ℕ) (first next : Place) (budget : Budget) where
  -- what a body of so many bytes does, with the budget that is left
  abbrev ended : Kind → Budget → Skipped
  ended kind rest =
      pick (leb (next.0 + body_length kind arg) (length s))
      (Ok (record { 0 = next.0 + body_length kind arg }, rest, places_of first next (record { 0 = next.0 + body_length kind arg }), is_string kind))
      (Err (record { 0 = length s }, rest, R.Eof))

  module _ (rest : Budget) where
    -- an atom of its header only
    header_taken_lem : (kind : Kind) → body_length kind arg ≡ 0 → is_string kind ≡ false → next.0 ≤ length s →
        Ok (next, rest, places_of first next next, false) ≡ ended kind rest
    header_taken_lem kind none no_string h =
        let a : next.0 + 0 ≡ next.0 = omega arith in
        rw (none, no_string) (simp (a, le-leb next.0 (length s) h))

    -- a number, by the test that it passes
    integer_taken_lem : (kind : Kind) (v : Bool) → is_string kind ≡ false →
        leb (next.0 + body_length kind arg) (length s) ≡ v →
        forgotten (integer_taken W.ExactLent s kind arg first next rest) ≡ ended kind rest
    unfolding integer_body
    integer_taken_lem kind true i c = simp (i, c)
    integer_taken_lem kind false i c = simp (i, c)

    float_taken_lem : (v : Bool) → leb (next.0 + count_of arg) (length s) ≡ v →
        forgotten (float_taken W.ExactLent s arg first next rest) ≡ ended K.Float rest
    unfolding float_body
    float_taken_lem true c = simp c
    float_taken_lem false c = simp c

    -- a string
    string_taken : next.0 ≤ length s → (v : Bool) → leb (next.0 + arg) (length s) ≡ v →
        forgotten (bytes_taken W.ExactLent s arg first next [] rest) ≡ ended K.Bytes rest
    unfolding lent_string
    string_taken h true c =
        simp
        (c, le-ltb (length s) next.0 h, le-ltb (length s) (next.0 + arg) (leb-true (next.0 + arg) (length s) c))
    string_taken h false c =
        simp
        (c, le-ltb (length s) next.0 h, lt-ltb (length s) (next.0 + arg) (leb-false (next.0 + arg) (length s) c))

    taken_after : (kind : Kind) → next.0 ≤ length s →
        forgotten (body_taken W.ExactLent s kind arg first next [] rest) ≡ ended kind rest
    taken_after K.Special h = header_taken_lem K.Special refl refl h
    taken_after K.Int h = integer_taken_lem K.Int _ refl refl
    taken_after K.UInt h = integer_taken_lem K.UInt _ refl refl
    taken_after K.Float h = float_taken_lem _ refl
    taken_after K.Sequence h = header_taken_lem K.Sequence refl refl h
    taken_after K.Map h = header_taken_lem K.Map refl refl h
    taken_after K.Symbol h = header_taken_lem K.Symbol refl refl h
    taken_after K.Bytes h = string_taken h _ refl

  -- the charge first, and then whether the atom is known
  judged_after : (kind : Kind) (body : Budget → AtomAnswer) (t u : Bool) → ltb budget.0 (charge_of kind arg) ≡ t →
      known kind arg ≡ u → ((rest : Budget) → forgotten (body rest) ≡ ended kind rest) →
      forgotten (judged kind arg next budget body)
      ≡ body_after (length s) kind arg first.0 next.0 budget.0
  unfolding judged body_past
  judged_after kind body true u a b f = simp a
  judged_after kind body false false a b f = simp (a, b)
  judged_after kind body false true a b f = rw (a, b) (f (record { 0 = budget.0 - charge_of kind arg }))

  -- EVERY KIND: what `read_atom` does after a header, with the value forgotten
  pub after_header : (kind : Kind) → next.0 ≤ length s →
      forgotten (atom_after W.ExactLent s kind arg first next budget [])
      ≡ body_after (length s) kind arg first.0 next.0 budget.0
  after_header kind h =
      judged_after kind (body_taken W.ExactLent s kind arg first next []) _ _ refl refl (λ rest. taken_after rest kind h)

-- what the loops are told does not depend on where the atom starts
module _ (size first other at left : ℕ) (string : Bool) (len charge : ℕ) (why : Refusal) where
  any_by : (allowed t u : Bool) → ltb left charge ≡ t → leb (at + len) size ≡ u →
      lean (body_past size first at left string len charge allowed why)
      ≡ lean (body_past size other at left string len charge allowed why)
  unfolding body_past
  any_by allowed true u a b = rw a refl
  any_by false false u a b = rw a refl
  any_by true false true a b = rw (a, b) refl
  any_by true false false a b = rw (a, b) refl

  pub any_first : (allowed : Bool) →
      lean (body_past size first at left string len charge allowed why)
      ≡ lean (body_past size other at left string len charge allowed why)
  any_first allowed = any_by allowed (ltb left charge) (leb (at + len) size) refl refl

-- a body that was passed: its charge was within the budget, it is known and whole
pub record Passed (size first at left : ℕ) (string : Bool) (len charge : ℕ) (allowed : Bool) (place rest : ℕ)
    (places : Places) (t : Bool) : Type 0
  where
    pub afforded : charge ≤ left
    pub is_known : allowed ≡ true
    pub is_whole : at + len ≤ size
    pub ends : place ≡ at + len
    pub leaves : rest ≡ left - charge
    pub stands : places ≡ places_of (record { 0 = first }) (record { 0 = at }) (record { 0 = at + len })
    pub told : t ≡ string

module _ (size first at left : ℕ) (string : Bool) (len charge : ℕ) (why : Refusal) (place : Place) (rest : Budget)
    (places : Places) (t : Bool) where
  passed_at : (allowed u v : Bool) → ltb left charge ≡ u → leb (at + len) size ≡ v →
      body_past size first at left string len charge allowed why ≡ Ok (place, rest, places, t) →
      Passed size first at left string len charge allowed place.0 rest.0 places t
  passed_at allowed true v a b e =
      let x = sym e ∙ past_over size first at left string len charge why allowed (ltb-true left charge a) in
      absurd (false≢true cc)
  passed_at false false v a b e =
      let x = sym e ∙ past_unknown size first at left string len charge why (ltb-false left charge a) in
      absurd (false≢true cc)
  passed_at true false false a b e =
      let x =
      sym e ∙ past_eof size first at left string len charge why (ltb-false left charge a) (leb-false (at + len) size b)
      in
      absurd (false≢true cc)
  passed_at true false true a b e =
      let h = ltb-false left charge a in
      let k = leb-true (at + len) size b in
      let x = same_ok (sym e ∙ past_whole size first at left string len charge why h k) in
      record {
        afforded = h;
        is_known = refl;
        is_whole = k;
        ends = ap (λ (y : Place × Budget × Places × Bool). y.0.0) x;
        leaves = ap (λ (y : Place × Budget × Places × Bool). y.1.0) x;
        stands = ap (λ (y : Place × Budget × Places × Bool). y.2) x;
        told = ap (λ (y : Place × Budget × Places × Bool). y.3) x;
      }

  pub passed : (allowed : Bool) →
      body_past size first at left string len charge allowed why ≡ Ok (place, rest, places, t) →
      Passed size first at left string len charge allowed place.0 rest.0 places t
  passed allowed e = passed_at allowed _ _ refl refl e
