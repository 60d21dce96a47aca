-- What the two ways of reading an atom differ in: where exact reading takes it, filled reading gives the same atom,
-- place and budget; else the source ends within it. And where exact reading takes an atom, it takes a byte at least.
use Rattle.std.specs.Prelude.{Result, Ok, Err}
use mathlib.Core.Path.{◌≡◌, refl, ap}
use mathlib.Core.Bool.{Bool, true, false, false≢true}
use mathlib.Core.List.{List}
use Prim.Native.Nat.{ℕ, ◌+◌, ◌≤◌, ◌<◌}
use native.Mathlib.Omega.{arith}
use borrow.Author.Tests.{leb-false}
use lib.Dec.{leb}
use lib.ListN.{length, drop}
use Rattle.types.specs.Answers.{AtomAnswer, HeaderAnswer}
use Rattle.types.specs.Choice.{pick}
use Rattle.types.specs.Ways.{exact}
use Rattle.types.specs.Forms.{known, body_length, charge_of, unknown}
use Rattle.types.specs.declared.Way.{Way}
use Rattle.types.specs.declared.Way.TheVariants as W
use Rattle.types.specs.declared.Kind.{Kind}
use Rattle.types.specs.declared.Kind.TheVariants as K
use Rattle.types.specs.declared.Place.{Place}
use Rattle.types.specs.declared.Budget.{Budget}
use Rattle.types.specs.declared.Atom.{Atom}
use Rattle.types.specs.declared.Refusal.{Refusal}
use Rattle.types.specs.declared.Refusal.TheVariants as R
use Rattle.types.proofs.Ways.{Differ, same, cut, up_to_differ, differ_reads}
use Rattle.header.specs.Header.{header_from, header_kind, header_argument, header_length}
use Rattle.little.specs.Le.{number_at}
use Rattle.header.proofs.Fewest.{length_bounds}
use Rattle.header.proofs.Places.{header_place, header_place_lem}
use Rattle.reader.specs.Strings.{start_of}
use Rattle.reader.proofs.Strings.{start_within}
use Rattle.atom.specs.Charges.{budget_after}
use Rattle.atom.specs.Atoms.{atom_read, atom_from, atom_after, atom_taken, charged, judged, body_taken, first_place}
use Rattle.atom.proofs.Numbers.{NumberForm, integers, floats, number_taken, integer_taken_lem, float_taken_lem}
use Rattle.atom.proofs.Forward.{atom_place, after_on}

-- what is charged, and known, alike under both ways: the rest makes the difference
judged_differ : (Eof : AtomAnswer → Type 0) (length end : ℕ) (next : Place) (budget : Budget) (a : Result Budget Refusal)
    (k : Bool) (r : Refusal) (f g : Budget → AtomAnswer) →
    ((rest : Budget) → Differ Eof length end (f rest) (g rest)) →
    Differ Eof length end (charged next budget a (λ rest. pick k (f rest) (Err (next, rest, r))))
    (charged next budget a (λ rest. pick k (g rest) (Err (next, rest, r))))
judged_differ Eof length end next budget (Ok rest) true r f g h = h rest
judged_differ Eof length end next budget (Ok rest) false r f g h = same refl
judged_differ Eof length end next budget (Err q) k r f g h = same refl

-- "4 Eof: end of slice", whatever the budget after it
abbrev pub Ended : List ℕ → AtomAnswer → Type 0
Ended s answer = (left : Budget) × (answer ≡ Err (record { 0 = length s }, left, R.Eof))

module _ (s : List ℕ) (budget : Budget) (scratch : List ℕ) where
  -- what follows a header: a number is taken up to its end, and nothing else differs
  module _ (arg : ℕ) (first next : Place) where
    module _ (rest : Budget) where
      number_differ : (n : NumberForm) (exactly filled : AtomAnswer) →
          exactly ≡ number_taken n W.ExactLent s arg first next rest →
          filled ≡ number_taken n W.Filled s arg first next rest →
          Differ (Ended s) (length s) (next.0 + body_length n.kind arg) exactly filled
      number_differ n exactly filled f g =
          let count = body_length n.kind arg in
          let taken : ℕ → AtomAnswer =
          λ p. atom_taken n.kind arg first next rest (record { 0 = p }) (n.nucleus count (number_at count s next.0))
          in
          rw (f, g)
          (up_to_differ (length s) (next.0 + count) taken (Err (record { 0 = length s }, rest, R.Eof)) (Ended s)
          (rest, refl))

      taken_differ : (kind : Kind) →
          Differ (Ended s) (length s) (next.0 + body_length kind arg)
          (body_taken W.ExactLent s kind arg first next scratch rest)
          (body_taken W.Filled s kind arg first next scratch rest)
      taken_differ K.Special = same refl
      taken_differ K.Int =
          number_differ (integers K.Int) _ _ (integer_taken_lem W.ExactLent s arg first next K.Int rest)
          (integer_taken_lem W.Filled s arg first next K.Int rest)
      taken_differ K.UInt =
          number_differ (integers K.UInt) _ _ (integer_taken_lem W.ExactLent s arg first next K.UInt rest)
          (integer_taken_lem W.Filled s arg first next K.UInt rest)
      taken_differ K.Float =
          number_differ floats _ _ (float_taken_lem W.ExactLent s arg first next rest)
          (float_taken_lem W.Filled s arg first next rest)
      taken_differ K.Sequence = same refl
      taken_differ K.Map = same refl
      taken_differ K.Symbol = same refl
      taken_differ K.Bytes = same refl

    after_differ : (kind : Kind) →
        Differ (Ended s) (length s) (next.0 + body_length kind arg)
        (atom_after W.ExactLent s kind arg first next budget scratch)
        (atom_after W.Filled s kind arg first next budget scratch)
    unfolding judged
    after_differ kind =
        judged_differ (Ended s) (length s) (next.0 + body_length kind arg) next budget
        (budget_after budget (charge_of kind arg)) (known kind arg) (unknown kind arg)
        (body_taken W.ExactLent s kind arg first next scratch) (body_taken W.Filled s kind arg first next scratch)
        (λ rest. taken_differ rest kind)

  -- the header before it
  from_differ : (t : Bool) (first : Place) (end : ℕ) (kind : Kind) (arg : ℕ) → leb end (length s) ≡ t →
      Differ (Ended s) (length s) (end + body_length kind arg)
      (atom_from W.ExactLent s first budget scratch
      (pick t (Ok (record { 0 = end }, kind, arg)) (Err (record { 0 = length s }, R.Eof))))
      (atom_from W.Filled s first budget scratch
      (pick t (Ok (record { 0 = end }, kind, arg)) (Ok (record { 0 = length s }, kind, arg))))
  from_differ true first end kind arg h = after_differ arg first (record { 0 = end }) kind
  from_differ false first end kind arg h =
      let past = leb-false end (length s) h in cut (budget, refl) (omega arith)

-- WHAT THE TWO WAYS DIFFER IN: exact reading, strings lent, answers as filled reading does; or the source ends within
-- the atom, which exact reading refuses by 4, at the source's end
pub atom_differ : (s : List ℕ) (place : ℕ) (budget : Budget) (scratch : List ℕ) →
    Differ (Ended s) (length s)
    (start_of s place + header_length (drop (start_of s place) s)
    + body_length (header_kind (drop (start_of s place) s)) (header_argument (drop (start_of s place) s)))
    (atom_read W.ExactLent s place budget scratch) (atom_read W.Filled s place budget scratch)
unfolding atom_read header_from
atom_differ s place budget scratch =
    let at : ℕ = start_of s place in
    from_differ s budget scratch (leb (at + header_length (drop at s)) (length s)) (first_place s place)
    (at + header_length (drop at s)) (header_kind (drop at s)) (header_argument (drop at s)) refl

-- WHERE EXACT READING SUCCEEDS, FILLED READING GIVES THE SAME atom, place and budget, strings lent
pub exact_then_filled : (s : List ℕ) (place : ℕ) (budget : Budget) (scratch : List ℕ) (p : Place) (b : Budget)
    (x : Atom) → atom_read W.ExactLent s place budget scratch ≡ Ok (p, b, x) →
    atom_read W.Filled s place budget scratch ≡ Ok (p, b, x)
exact_then_filled s place budget scratch p b x =
    differ_reads (Ended s) (atom_differ s place budget scratch) (Ok (p, b, x)) (λ ended. false≢true cc)

-- an exact header takes a byte at least
header_more : (at n : ℕ) (end : Place) (k : Kind) (a : ℕ) (t e : Bool) → 1 ≤ n → e ≡ true → (p : Place) (kind : Kind)
    (arg : ℕ) →
    pick {X = HeaderAnswer} t (Ok (record { 0 = at + n }, k, a)) (pick e (Err (end, R.Eof)) (Ok (end, k, a)))
    ≡ Ok (p, kind, arg) →
    at < p.0
header_more at n end k a true e h x p kind arg f = let q : at + n ≡ p.0 = ap header_place f in omega arith
header_more at n end k a false true h x p kind arg f = absurd (false≢true cc)
header_more at n end k a false false h x p kind arg f = absurd (false≢true x)

from_more : (way : Way) (s : List ℕ) (first : Place) (at : ℕ) (budget : Budget) (scratch : List ℕ)
    (h : HeaderAnswer) (p : Place) (b : Budget) (x : Atom) →
    ((q : Place) (k : Kind) (n : ℕ) → h ≡ Ok (q, k, n) → at < q.0) →
    header_place h ≤ length s → atom_from way s first budget scratch h ≡ Ok (p, b, x) → at < p.0
from_more way s first at budget scratch (Ok (next, kind, arg)) p b x f l e =
    let w = after_on way s arg first next budget scratch l kind in
    let up = f next kind arg refl in
    let on = w.not_back in
    let q = ap atom_place e in
    omega arith
from_more way s first at budget scratch (Err (q, r)) p b x f l e = absurd (false≢true cc)

-- AN EXACT READ TAKES AT LEAST ONE BYTE
pub exact_more : (way : Way) → exact way ≡ true → (s : List ℕ) (place : ℕ) (budget : Budget) (scratch : List ℕ)
    (p : Place) (b : Budget) (x : Atom) → atom_read way s place budget scratch ≡ Ok (p, b, x) → start_of s place < p.0
unfolding atom_read header_from
exact_more way e s place budget scratch p b x h =
    let at : ℕ = start_of s place in
    from_more way s (first_place s place) at budget scratch (header_from way s at) p b x
    (λ q k n g. header_more at (header_length (drop at s)) _ (header_kind (drop at s)) (header_argument (drop at s))
    (leb (at + header_length (drop at s)) (length s)) (exact way) (length_bounds (drop at s)).0 e q k n g)
    (header_place_lem way s at (start_within s place)).1
    h
