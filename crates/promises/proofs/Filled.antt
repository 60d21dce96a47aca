-- Filled reading. Document 01, "Two ways of reading": "Only a string can run out. On an empty slice it answers None for
-- ever, at place 0."
use Rattle.std.specs.Prelude.{Ok, Err}
use mathlib.Core.Path.{◌≡◌, refl, ◌∙◌, sym, ap}
use mathlib.Core.Bool.{Bool, true, false, false≢true}
use mathlib.Core.List.{List, []}
use Prim.Native.Nat.{ℕ, ◌+◌, ◌-◌, ◌≤◌}
use native.Mathlib.Omega.{arith}
use lib.Dec.{ltb, leb}
use lib.ListN.{length, drop}
use borrow.Author.Tests.{leb-true, leb-false}
use Rattle.types.proofs.Answers.{err_two, err_three}
use Rattle.types.specs.Answers.{AtomAnswer, FloatAnswer, IntegerAnswer}
use Rattle.types.specs.Choice.{pick}
use Rattle.types.specs.Counters.{place_in, no_places}
use Rattle.types.specs.Forms.{allowed_count, allowed_float, count_of, known, body_length, charge_of, unknown}
use Rattle.types.specs.declared.Way.TheVariants as W
use Rattle.types.specs.declared.Kind.{Kind}
use Rattle.types.specs.declared.Kind.TheVariants as K
use Rattle.types.specs.declared.Place.{Place}
use Rattle.types.specs.declared.Budget.{Budget}
use Rattle.types.specs.declared.Refusal.{Refusal}
use Rattle.types.specs.declared.Refusal.TheVariants as R
use Rattle.types.specs.declared.Nucleus.TheVariants as N
use Rattle.types.proofs.Counters.{place_within}
use Rattle.header.specs.Header.{header_from, header_kind, header_length, header_argument, later_count, later_value}
use Rattle.little.specs.Le.{number_at}
use Rattle.integer.specs.Integers.{integer_kind, integer_from, integer_body}
use Rattle.integer.proofs.Answers as integers
use Rattle.float.specs.Floats.{float_of, float_from, float_body}
use Rattle.float.proofs.Answers as floats
use Rattle.atom.specs.Atoms.{atom_of, atom_read, atom_from, atom_after, charged, judged, integer_atom, float_atom}
use Rattle.atom.specs.Atoms.{integer_taken, float_taken, body_taken, first_place}
use Rattle.atom.proofs.Answers.{free}

-- AN EMPTY SLICE answers None at place 0, whatever the place given, and leaves the budget; its three places are 0
pub none_for_ever : (place : ℕ) (budget : Budget) (scratch : List ℕ) →
    atom_read W.Filled [] place budget scratch ≡ Ok (record { 0 = 0 }, budget, atom_of K.Special 0 no_places N.None)
unfolding atom_read header_from header_length header_argument later_count later_value judged
none_for_ever place budget scratch =
    let within : place_in 0 place ≤ 0 = place_within 0 place in
    let start : place_in 0 place ≡ 0 = omega arith in
    ap (λ (at : ℕ). atom_from W.Filled [] (record { 0 = at }) budget scratch (header_from W.Filled [] at)) start
    ∙ rw (free budget) refl

-- a number does not run out: its bytes, and so a number read asked for directly
integer_body_lem : (s : List ℕ) (at : ℕ) (kind : Kind) (count : ℕ) (p : Place) (w : Bool) →
    leb (at + count) (length s) ≡ w →
    integer_body W.Filled s at kind count ≡ Err (p, R.Eof) → ⊥
integer_body_lem s at kind count p true g h =
    let x = sym (integers.body_whole W.Filled s at kind count (leb-true (at + count) (length s) g)) ∙ h in
    false≢true cc
integer_body_lem s at kind count p false g h =
    let x = sym (integers.body_filled W.Filled s at kind count (leb-false (at + count) (length s) g) refl) ∙ h in
    false≢true cc

integer_by : (s : List ℕ) (at : ℕ) (kind : Kind) (count : ℕ) (p : Place) (k a : Bool) → integer_kind kind ≡ k →
    allowed_count count ≡ a → integer_from W.Filled s at kind count ≡ Err (p, R.Eof) → ⊥
integer_by s at kind count p false a e f h =
    let x = err_two (sym (integers.from_other_kind W.Filled s at kind count e) ∙ h) in
    false≢true (cc (x.1))
integer_by s at kind count p true false e f h =
    let x = err_two (sym (integers.from_other_count W.Filled s at kind count e f) ∙ h) in
    false≢true (cc (x.1))
integer_by s at kind count p true true e f h =
    integer_body_lem s at kind count p _ refl (sym (integers.from_body W.Filled s at kind count e f) ∙ h)

pub integer_whole : (s : List ℕ) (at : ℕ) (kind : Kind) (count : ℕ) (p : Place) →
    integer_from W.Filled s at kind count ≡ Err (p, R.Eof) → ⊥
integer_whole s at kind count p = integer_by s at kind count p (integer_kind kind) (allowed_count count) refl refl

float_body_lem : (s : List ℕ) (at count : ℕ) (p : Place) (w : Bool) → leb (at + count) (length s) ≡ w →
    float_body W.Filled s at count ≡ Err (p, R.Eof) → ⊥
float_body_lem s at count p true g h =
    let x =
    floats.body_whole W.Filled s at count (number_at count s at) (float_of count (number_at count s at)) refl refl
    (leb-true (at + count) (length s) g)
    ∙ h
    in
    false≢true cc
float_body_lem s at count p false g h =
    let x =
    floats.body_filled W.Filled s at count (number_at count s at) (float_of count (number_at count s at)) refl refl
    (leb-false (at + count) (length s) g) refl
    ∙ h
    in
    false≢true cc

float_by : (s : List ℕ) (at count : ℕ) (p : Place) (a : Bool) → allowed_float count ≡ a →
    float_from W.Filled s at K.Float count ≡ Err (p, R.Eof) → ⊥
float_by s at count p false f h =
    let x = err_two (floats.from_count W.Filled s at count K.Float refl f ∙ h) in
    false≢true (cc (x.1))
float_by s at count p true f h =
    float_body_lem s at count p _ refl (floats.from_body W.Filled s at count K.Float refl f ∙ h)

pub float_whole : (s : List ℕ) (at count : ℕ) (p : Place) →
    float_from W.Filled s at K.Float count ≡ Err (p, R.Eof) → ⊥
float_whole s at count p = float_by s at count p (allowed_float count) refl

-- an atom that is refused with 4 is refused so by its body, past the charge and the form
judged_end : (next : Place) (budget : Budget) (charge : ℕ) (body : Budget → AtomAnswer) (r : Refusal) (p : Place)
    (b : Budget) (t u : Bool) → (r ≡ R.Eof → u ≡ true) →
    charged next budget (pick t (Err R.TooManyBytesRead) (Ok (record { 0 = budget.0 - charge })))
    (λ rest. pick u (body rest) (Err (next, rest, r))) ≡ Err (p, b, R.Eof) →
    (rest : Budget) × (body rest ≡ Err (p, b, R.Eof))
judged_end next budget charge body r p b true u k h =
    let x = err_three h in absurd (false≢true (cc (x.2)))
judged_end next budget charge body r p b false true k h = (record { 0 = budget.0 - charge }, h)
judged_end next budget charge body r p b false false k h = absurd (false≢true (k (err_three h).2))

integer_end : (kind : Kind) (arg : ℕ) (first next : Place) (rest : Budget) (a : IntegerAnswer) (p : Place)
    (b : Budget) →
    integer_atom kind arg first next rest a ≡ Err (p, b, R.Eof) →
    a ≡ Err (p, R.Eof)
integer_end kind arg first next rest (Ok (q, v)) p b h = absurd (false≢true cc)
integer_end kind arg first next rest (Err (q, r)) p b h = let x = err_three h in cc (x.0, x.2)

float_end : (arg : ℕ) (first next : Place) (rest : Budget) (a : FloatAnswer) (p : Place) (b : Budget) →
    float_atom arg first next rest a ≡ Err (p, b, R.Eof) →
    a ≡ Err (p, R.Eof)
float_end arg first next rest (Ok (q, v, bits)) p b h = absurd (false≢true cc)
float_end arg first next rest (Err (q, r)) p b h = let x = err_three h in cc (x.0, x.2)

module _ (s : List ℕ) (arg : ℕ) (first next : Place) (budget : Budget) (scratch : List ℕ) (p : Place)
    (b : Budget) where
  -- the refusal of an atom that is not known is another
  other_refusal : (kind : Kind) → unknown kind arg ≡ R.Eof → known kind arg ≡ true
  other_refusal K.Special e = absurd (false≢true cc)
  other_refusal K.Int e = absurd (false≢true cc)
  other_refusal K.UInt e = absurd (false≢true cc)
  other_refusal K.Float e = absurd (false≢true cc)
  other_refusal K.Sequence e = refl
  other_refusal K.Map e = refl
  other_refusal K.Symbol e = refl
  other_refusal K.Bytes e = refl

  no_integer : (kind : Kind) (rest : Budget) →
      integer_taken W.Filled s kind arg first next rest ≡ Err (p, b, R.Eof) → ⊥
  no_integer kind rest h =
      integer_body_lem s next.0 kind (body_length kind arg) p (leb (next.0 + body_length kind arg) (length s)) refl
      (integer_end kind arg first next rest (integer_body W.Filled s next.0 kind (body_length kind arg)) p b h)

  no_float : (rest : Budget) → float_taken W.Filled s arg first next rest ≡ Err (p, b, R.Eof) → ⊥
  no_float rest h =
      float_body_lem s next.0 (count_of arg) p (leb (next.0 + count_of arg) (length s)) refl
      (float_end arg first next rest (float_body W.Filled s next.0 (count_of arg)) p b h)

  taken : (kind : Kind) (rest : Budget) →
      body_taken W.Filled s kind arg first next scratch rest ≡ Err (p, b, R.Eof) → kind ≡ K.Bytes
  taken K.Special rest h = absurd (false≢true cc)
  taken K.Int rest h = absurd (no_integer K.Int rest h)
  taken K.UInt rest h = absurd (no_integer K.UInt rest h)
  taken K.Float rest h = absurd (no_float rest h)
  taken K.Sequence rest h = absurd (false≢true cc)
  taken K.Map rest h = absurd (false≢true cc)
  taken K.Symbol rest h = absurd (false≢true cc)
  taken K.Bytes rest h = refl

  after : (kind : Kind) → atom_after W.Filled s kind arg first next budget scratch ≡ Err (p, b, R.Eof) →
      kind ≡ K.Bytes
  unfolding judged
  after kind h =
      let x =
      judged_end next budget (charge_of kind arg) (body_taken W.Filled s kind arg first next scratch) (unknown kind arg)
      p b (ltb budget.0 (charge_of kind arg)) (known kind arg) (other_refusal kind) h
      in
      taken kind x.0 x.1

headed : (s : List ℕ) (first : Place) (budget : Budget) (scratch : List ℕ) (kind : Kind) (arg end : ℕ) (p : Place)
    (b : Budget) (t : Bool) →
    atom_from W.Filled s first budget scratch (pick t (Ok (record { 0 = end }, kind, arg))
    (Ok (record { 0 = length s }, kind, arg))) ≡ Err (p, b, R.Eof) →
    kind ≡ K.Bytes
headed s first budget scratch kind arg end p b true h =
    after s arg first (record { 0 = end }) budget scratch p b kind h
headed s first budget scratch kind arg end p b false h =
    after s arg first (record { 0 = length s }) budget scratch p b kind h

-- ONLY A STRING CAN RUN OUT: an atom that filled reading refuses with 4 is a string
pub only_a_string : (s : List ℕ) (place : ℕ) (budget : Budget) (scratch : List ℕ) (p : Place) (b : Budget) →
    atom_read W.Filled s place budget scratch ≡ Err (p, b, R.Eof) →
    header_kind (drop (place_in (length s) place) s) ≡ K.Bytes
unfolding atom_read header_from
only_a_string s place budget scratch p b h =
    let at : ℕ = place_in (length s) place in
    headed s (first_place s place) budget scratch (header_kind (drop at s)) (header_argument (drop at s))
    (at + header_length (drop at s)) p b (leb (at + header_length (drop at s)) (length s)) h
