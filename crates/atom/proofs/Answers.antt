-- The order within an atom, at each of its ends: the charge, then whether the atom is known, then its body. And the
-- bodies of numbers where the two are passed.
use Rattle.std.specs.Prelude.{Result, Ok, Err}
use mathlib.Core.Path.{◌≡◌, refl, ◌∙◌, sym}
use mathlib.Core.Bool.{Bool, true, false, false≢true}
use mathlib.Core.List.{List}
use Prim.Native.Nat.{ℕ, ◌-◌}
use native.Mathlib.Omega.{arith}
use lib.Dec.{ltb}
use borrow.Author.Tests.{le-ltb}
use Rattle.types.specs.Answers.{AtomAnswer}
use Rattle.types.specs.Choice.{pick}
use Rattle.types.specs.Forms.{allowed_count, allowed_float, count_of, number_charge, known, body_length, charge_of, unknown}
use Rattle.types.specs.Forms.{unsupported}
use Rattle.types.specs.declared.Way.{Way}
use Rattle.types.specs.declared.Kind.{Kind}
use Rattle.types.specs.declared.Kind.TheVariants as K
use Rattle.types.specs.declared.Place.{Place}
use Rattle.types.specs.declared.Budget.{Budget}
use Rattle.types.specs.declared.Refusal.{Refusal}
use Rattle.types.specs.declared.Refusal.TheVariants as R
use Rattle.types.proofs.Answers.{same_err}
use Rattle.integer.specs.Integers.{integer_kind, integer_body}
use Rattle.float.specs.Floats.{float_body}
use Rattle.atom.specs.Charges.{budget_after}
use Rattle.atom.specs.Atoms.{charged, judged, integer_atom, float_atom, integer_taken, float_taken}

-- what costs nothing leaves the budget
pub free : (b : Budget) → budget_after b 0 ≡ Ok b
free b =
    let same : b.0 - 0 ≡ b.0 = omega arith in
    simp (le-ltb b.0 0 (omega arith), same)

-- a charge is refused with 5, and with nothing else
refused_at : (b : Budget) (c : ℕ) (r : Refusal) (t : Bool) →
    ◌≡◌ {A = Result Budget Refusal} (pick t (Err R.TooManyBytesRead) (Ok (record { 0 = b.0 - c }))) (Err r) →
    R.TooManyBytesRead ≡ r
refused_at b c r true e = same_err e
refused_at b c r false e = absurd (false≢true cc)

pub too_many : (b : Budget) (c : ℕ) (r : Refusal) → budget_after b c ≡ Err r → R.TooManyBytesRead ≡ r
too_many b c r e = refused_at b c r (ltb b.0 c) e

-- an atom, by its charge and by whether it is known
module _ (kind : Kind) (arg : ℕ) (next : Place) (budget : Budget) (body : Budget → AtomAnswer) where
  pub judged_dear : (r : Refusal) → budget_after budget (charge_of kind arg) ≡ Err r →
      Err (next, budget, R.TooManyBytesRead) ≡ judged kind arg next budget body
  unfolding judged
  judged_dear r e = cc (too_many budget (charge_of kind arg) r e)

  module _ (rest : Budget) (left : budget_after budget (charge_of kind arg) ≡ Ok rest) where
    pub judged_left : known kind arg ≡ true → body rest ≡ judged kind arg next budget body
    unfolding judged
    judged_left k = cc

-- what differs after that is what the bodies differ in
same_paid : (next : Place) (budget : Budget) (f g : Budget → AtomAnswer) (paid : Result Budget Refusal) (k : Bool)
    (r : Refusal) →
    ((rest : Budget) → f rest ≡ g rest) → (a b : AtomAnswer) →
    a ≡ charged next budget paid (λ rest. pick k (f rest) (Err (next, rest, r))) →
    b ≡ charged next budget paid (λ rest. pick k (g rest) (Err (next, rest, r))) → a ≡ b
same_paid next budget f g (Ok rest) true r h a b x y = x ∙ h rest ∙ sym y
same_paid next budget f g (Ok rest) false r h a b x y = x ∙ sym y
same_paid next budget f g (Err q) k r h a b x y = x ∙ sym y

pub same_judged : (kind : Kind) (arg : ℕ) (next : Place) (budget : Budget) (f g : Budget → AtomAnswer) →
    ((rest : Budget) → f rest ≡ g rest) → judged kind arg next budget f ≡ judged kind arg next budget g
unfolding judged
same_judged kind arg next budget f g h =
    same_paid next budget f g (budget_after budget (charge_of kind arg)) (known kind arg) (unknown kind arg) h _ _ refl
    refl

-- WHAT THE ARGUMENT OF AN INTEGER MEANS, of either kind
pub either_kind : (P : Kind → Type 0) → P K.Int → P K.UInt → (kind : Kind) → integer_kind kind ≡ true → P kind
either_kind P i u K.Special h = absurd (false≢true h)
either_kind P i u K.Int h = i
either_kind P i u K.UInt h = u
either_kind P i u K.Float h = absurd (false≢true h)
either_kind P i u K.Sequence h = absurd (false≢true h)
either_kind P i u K.Map h = absurd (false≢true h)
either_kind P i u K.Symbol h = absurd (false≢true h)
either_kind P i u K.Bytes h = absurd (false≢true h)

module _ (kind : Kind) (k : integer_kind kind ≡ true) (arg : ℕ) where
  pub integer_known : known kind arg ≡ allowed_count (count_of arg)
  integer_known = either_kind (λ x. known x arg ≡ allowed_count (count_of arg)) refl refl kind k

  pub integer_long : body_length kind arg ≡ count_of arg
  integer_long = either_kind (λ x. body_length x arg ≡ count_of arg) refl refl kind k

  pub integer_costs : charge_of kind arg ≡ number_charge (count_of arg)
  integer_costs = either_kind (λ x. charge_of x arg ≡ number_charge (count_of arg)) refl refl kind k

  pub integer_unknown : unknown kind arg ≡ unsupported kind (count_of arg)
  integer_unknown = either_kind (λ x. unknown x arg ≡ unsupported x (count_of arg)) refl refl kind k

-- a number of an allowed count whose charge is within the budget: the body follows
module _ (way : Way) (s : List ℕ) (arg : ℕ) (first next : Place) (budget rest : Budget) (bytes : ℕ)
    (b : bytes ≡ count_of arg) (left : budget_after budget (number_charge bytes) ≡ Ok rest) where
  pub integer_left : (kind : Kind) → integer_kind kind ≡ true → allowed_count bytes ≡ true →
      integer_atom kind arg first next rest (integer_body way s next.0 kind bytes)
      ≡ judged kind arg next budget (integer_taken way s kind arg first next)
  unfolding judged
  integer_left kind k a = cc (integer_known kind k arg, integer_long kind k arg, integer_costs kind k arg)

  pub float_left : allowed_float bytes ≡ true →
      float_atom arg first next rest (float_body way s next.0 bytes)
      ≡ judged K.Float arg next budget (float_taken way s arg first next)
  unfolding judged
  float_left a = cc
