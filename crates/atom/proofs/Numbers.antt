-- A number that follows a header, over what differs between an integer and a float: its kind, the counts of bytes that
-- it may have, and what an atom holds of it.
use Rattle.std.specs.Prelude.{Ok, Err}
use mathlib.Core.Path.{◌≡◌, refl}
use mathlib.Core.Bool.{Bool, true, false}
use mathlib.Core.List.{List}
use Prim.Native.Nat.{ℕ, ◌+◌}
use lib.Dec.{leb}
use lib.ListN.{length}
use Rattle.types.specs.Answers.{AtomAnswer, FloatAnswer, IntegerAnswer}
use Rattle.types.specs.Choice.{pick}
use Rattle.types.specs.Ways.{exact, up_to}
use Rattle.types.specs.Forms.{allowed_count, allowed_float, count_of, number_charge, known, body_length, charge_of, unknown}
use Rattle.types.specs.Forms.{unsupported}
use Rattle.types.specs.declared.Way.{Way}
use Rattle.types.specs.declared.Kind.{Kind}
use Rattle.types.specs.declared.Kind.TheVariants as K
use Rattle.types.specs.declared.Place.{Place}
use Rattle.types.specs.declared.Budget.{Budget}
use Rattle.types.specs.declared.Nucleus.{Nucleus}
use Rattle.types.specs.declared.Nucleus.TheVariants as N
use Rattle.types.specs.declared.Refusal.TheVariants as R
use Rattle.little.specs.Le.{number_at}
use Rattle.integer.specs.Integers.{integer_kind, integer_of, integer_body}
use Rattle.float.specs.Floats.{float_of, float_body}
use Rattle.atom.specs.Atoms.{atom_taken, judged, integer_atom, float_atom, integer_taken, float_taken}
use Rattle.atom.proofs.Answers.{same_judged, integer_known, integer_long, integer_costs, integer_unknown}

pub record NumberForm : Type 0 where
  pub kind : Kind
  pub allowed : ℕ → Bool
  pub nucleus : ℕ → ℕ → Nucleus

abbrev pub integers : Kind → NumberForm
integers kind =
    record { kind = kind; allowed = allowed_count; nucleus = λ count bits. N.Integer (integer_of kind count bits) }

abbrev pub floats : NumberForm
floats = record { kind = K.Float; allowed = allowed_float; nucleus = λ count bits. N.Float (float_of count bits) bits }

-- what its argument means
pub record Means (n : NumberForm) (arg : ℕ) : Type 0 where
  pub knows : known n.kind arg ≡ n.allowed (count_of arg)
  pub long : body_length n.kind arg ≡ count_of arg
  pub costs : charge_of n.kind arg ≡ number_charge (count_of arg)
  pub refuses : unknown n.kind arg ≡ unsupported n.kind (count_of arg)

pub integer_means : (kind : Kind) → integer_kind kind ≡ true → (arg : ℕ) → Means (integers kind) arg
integer_means kind k arg = record {
  knows = integer_known kind k arg;
  long = integer_long kind k arg;
  costs = integer_costs kind k arg;
  refuses = integer_unknown kind k arg;
}

pub float_means_lem : (arg : ℕ) → Means floats arg
float_means_lem arg = record { knows = refl; long = refl; costs = refl; refuses = refl }

-- what is taken of its bytes, by the end of input
abbrev pub number_taken : NumberForm → Way → List ℕ → ℕ → Place → Place → Budget → AtomAnswer
number_taken n way s arg first next rest =
    up_to way (length s) (next.0 + body_length n.kind arg)
    (λ p. atom_taken n.kind arg first next rest (record { 0 = p })
    (n.nucleus (body_length n.kind arg) (number_at (body_length n.kind arg) s next.0)))
    (Err (record { 0 = length s }, rest, R.Eof))

-- and the charge and the count before that
unfoldable pub number_after : NumberForm → Way → List ℕ → ℕ → Place → Place → Budget → AtomAnswer
number_after n way s arg first next budget = judged n.kind arg next budget (number_taken n way s arg first next)

-- so the definitions have it
through : {X Y : Type 0} (f : X → Y) (t e : Bool) (whole eof filled : X) →
    f (pick t whole (pick e eof filled)) ≡ pick t (f whole) (pick e (f eof) (f filled))
through f true e whole eof filled = refl
through f false true whole eof filled = refl
through f false false whole eof filled = refl

module _ (way : Way) (s : List ℕ) (arg : ℕ) (first next : Place) where
  module _ (kind : Kind) where
    pub integer_taken_lem : (rest : Budget) →
        integer_taken way s kind arg first next rest ≡ number_taken (integers kind) way s arg first next rest
    unfolding integer_body
    integer_taken_lem rest =
        let n = body_length kind arg in
        let found : ℕ → IntegerAnswer = λ p. Ok (record { 0 = p }, integer_of kind n (number_at n s next.0)) in
        through (integer_atom kind arg first next rest) (leb (next.0 + n) (length s)) (exact way) (found (next.0 + n))
        (Err (record { 0 = length s }, R.Eof)) (found (length s))

    pub integer_number : (budget : Budget) →
        judged kind arg next budget (integer_taken way s kind arg first next)
        ≡ number_after (integers kind) way s arg first next budget
    unfolding number_after
    integer_number budget = same_judged kind arg next budget _ _ integer_taken_lem

  pub float_taken_lem : (rest : Budget) →
      float_taken way s arg first next rest ≡ number_taken floats way s arg first next rest
  unfolding float_body
  float_taken_lem rest =
      let n = body_length K.Float arg in
      let bits = number_at n s next.0 in
      let found : ℕ → FloatAnswer = λ p. Ok (record { 0 = p }, float_of n bits, bits) in
      through (float_atom arg first next rest) (leb (next.0 + n) (length s)) (exact way) (found (next.0 + n))
      (Err (record { 0 = length s }, R.Eof)) (found (length s))

  pub float_number : (budget : Budget) →
      judged K.Float arg next budget (float_taken way s arg first next) ≡ number_after floats way s arg first next budget
  unfolding number_after
  float_number budget = same_judged K.Float arg next budget _ _ float_taken_lem
