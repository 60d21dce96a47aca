-- Where reading an atom leaves the place and the budget, under every way, refused or not: the place never falls and
-- never passes the end, and the budget never rises.
use Rattle.std.specs.Prelude.{Ok, Err}
use mathlib.Core.Path.{◌≡◌, refl, subst}
use mathlib.Core.Bool.{Bool, true, false}
use mathlib.Core.List.{List}
use Prim.Native.Nat.{ℕ, ◌+◌, ◌-◌, ◌≤◌}
use native.Mathlib.Omega.{arith}
use native.Mathlib.Nat.{le_trans, le_refl}
use lib.Dec.{leb, ltb}
use borrow.Author.Tests.{leb-true}
use lib.ListN.{length}
use Rattle.types.specs.Answers.{AtomAnswer, BytesAnswer, HeaderAnswer}
use Rattle.types.specs.Choice.{pick}
use Rattle.types.specs.Ways.{exact}
use Rattle.types.specs.Forms.{known, body_length, charge_of, unknown}
use Rattle.types.specs.declared.Way.{Way}
use Rattle.types.specs.declared.Kind.{Kind}
use Rattle.types.specs.declared.Kind.TheVariants as K
use Rattle.types.specs.declared.Place.{Place}
use Rattle.types.specs.declared.Budget.{Budget}
use Rattle.types.specs.declared.Atom.{Atom}
use Rattle.types.specs.declared.Refusal.{Refusal}
use Rattle.types.specs.declared.Refusal.TheVariants as R
use Rattle.types.specs.declared.Nucleus.{Nucleus}
use Rattle.header.specs.Header.{header_read}
use Rattle.header.proofs.Places.{header_place, header_place_lem}
use Rattle.reader.specs.Strings.{start_of, string_answer, string_place}
use Rattle.reader.proofs.Strings.{start_within, start_same}
use Rattle.reader.proofs.Delivered.{string_forward}
use Rattle.atom.specs.Atoms.{atom_read, atom_from, atom_after, charged, judged, bytes_atom, header_taken, bytes_taken}
use Rattle.atom.specs.Atoms.{body_taken, first_place}
use Rattle.atom.proofs.Numbers.{NumberForm, integers, floats, number_taken, integer_taken_lem, float_taken_lem}

-- the place and the budget after, refused or not
abbrev pub atom_place : AtomAnswer → ℕ
atom_place (Ok (p, b, a)) = p.0
atom_place (Err (p, b, r)) = p.0

abbrev pub atom_budget : AtomAnswer → ℕ
atom_budget (Ok (p, b, a)) = b.0
atom_budget (Err (p, b, r)) = b.0

-- from a place to the end, from a budget down
pub record Onward (at end left : ℕ) (a : AtomAnswer) : Type 0 where
  pub not_back : at ≤ atom_place a
  pub not_past : atom_place a ≤ end
  pub not_up : atom_budget a ≤ left

-- a string that answers a place from `at` to the end, with the budget that is left
bytes_on : (at end left : ℕ) (arg : ℕ) (first next : Place) (rest : Budget) (a : BytesAnswer) → at ≤ string_place a →
    string_place a ≤ end → rest.0 ≤ left → Onward at end left (bytes_atom arg first next rest a)
bytes_on at end left arg first next rest (Ok (p, m)) h k l = record { not_back = h; not_past = k; not_up = l }
bytes_on at end left arg first next rest (Err (p, r)) h k l = record { not_back = h; not_past = k; not_up = l }

-- a charge, and what follows it
charged_on : (next : Place) (budget : Budget) (charge end : ℕ) (body : Budget → AtomAnswer) → next.0 ≤ end →
    ((rest : Budget) → rest.0 ≤ budget.0 → Onward next.0 end budget.0 (body rest)) →
    (t : Bool) → ltb budget.0 charge ≡ t →
    Onward next.0 end budget.0
    (charged next budget (pick t (Err R.TooManyBytesRead) (Ok (record { 0 = budget.0 - charge }))) body)
charged_on next budget charge end body h f true e =
    record { not_back = le_refl next.0; not_past = h; not_up = le_refl budget.0 }
charged_on next budget charge end body h f false e = f (record { 0 = budget.0 - charge }) (omega arith)

module _ (way : Way) (s : List ℕ) (arg : ℕ) (first next : Place) (budget : Budget) (scratch : List ℕ)
    (h : next.0 ≤ length s) where
  -- the charge, and whether the atom is known
  known_on : (rest : Budget) → rest.0 ≤ budget.0 → (k : Bool) (a : AtomAnswer) (r : Refusal) →
      Onward next.0 (length s) budget.0 a →
      Onward next.0 (length s) budget.0 (pick k a (Err (next, rest, r)))
  known_on rest l true a r w = w
  known_on rest l false a r w = record { not_back = le_refl next.0; not_past = h; not_up = l }

  judged_on : (kind : Kind) (body : Budget → AtomAnswer) →
      ((rest : Budget) → rest.0 ≤ budget.0 → Onward next.0 (length s) budget.0 (body rest)) →
      Onward next.0 (length s) budget.0 (judged kind arg next budget body)
  unfolding judged
  judged_on kind body f =
      charged_on next budget (charge_of kind arg) (length s)
      (λ rest. pick (known kind arg) (body rest) (Err (next, rest, unknown kind arg))) h
      (λ rest l. known_on rest l (known kind arg) (body rest) (unknown kind arg) (f rest l))
      (ltb budget.0 (charge_of kind arg))
      refl

  module _ (rest : Budget) (l : rest.0 ≤ budget.0) where
    header_on : (kind : Kind) (nucleus : Nucleus) →
        Onward next.0 (length s) budget.0 (header_taken kind arg first next nucleus rest)
    header_on kind nucleus = record { not_back = le_refl next.0; not_past = h; not_up = l }

    number_on : (n : NumberForm) → Onward next.0 (length s) budget.0 (number_taken n way s arg first next rest)
    number_on n =
        on (body_length n.kind arg) (leb (next.0 + body_length n.kind arg) (length s)) (exact way) refl _ _
      where
        on : (count : ℕ) (t e : Bool) → leb (next.0 + count) (length s) ≡ t → (x y : Atom) →
            Onward next.0 (length s) budget.0
            (pick t (Ok (record { 0 = next.0 + count }, rest, x))
            (pick e (Err (record { 0 = length s }, rest, R.Eof)) (Ok (record { 0 = length s }, rest, y))))
        on count true e f x y =
            record { not_back = omega arith; not_past = leb-true (next.0 + count) (length s) f; not_up = l }
        on count false true f x y = record { not_back = h; not_past = le_refl (length s); not_up = l }
        on count false false f x y = record { not_back = h; not_past = le_refl (length s); not_up = l }

    string_on : Onward next.0 (length s) budget.0 (bytes_taken way s arg first next scratch rest)
    string_on =
        let w = string_forward way s next.0 arg scratch in
        let same = start_same s next.0 h in
        bytes_on next.0 (length s) budget.0 arg first next rest (string_answer way s next.0 arg scratch)
        (subst (λ (n : ℕ). n ≤ string_place (string_answer way s next.0 arg scratch)) same w.0) w.1 l

    taken_on : (kind : Kind) →
        Onward next.0 (length s) budget.0 (body_taken way s kind arg first next scratch rest)
    taken_on K.Special = header_on K.Special _
    taken_on K.Int = rw (integer_taken_lem way s arg first next K.Int rest) (number_on (integers K.Int))
    taken_on K.UInt = rw (integer_taken_lem way s arg first next K.UInt rest) (number_on (integers K.UInt))
    taken_on K.Float = rw (float_taken_lem way s arg first next rest) (number_on floats)
    taken_on K.Sequence = header_on K.Sequence _
    taken_on K.Map = header_on K.Map _
    taken_on K.Symbol = header_on K.Symbol _
    taken_on K.Bytes = string_on

  pub after_on : (kind : Kind) →
      Onward next.0 (length s) budget.0 (atom_after way s kind arg first next budget scratch)
  after_on kind = judged_on kind (body_taken way s kind arg first next scratch) (λ rest l. taken_on rest l kind)

from_on : (way : Way) (s : List ℕ) (first : Place) (at : ℕ) (budget : Budget) (scratch : List ℕ) (a : HeaderAnswer) →
    at ≤ header_place a → header_place a ≤ length s →
    Onward at (length s) budget.0 (atom_from way s first budget scratch a)
from_on way s first at budget scratch (Ok (next, kind, arg)) h k =
    let w = after_on way s arg first next budget scratch k kind in
    record { not_back = le_trans h w.not_back; not_past = w.not_past; not_up = w.not_up }
from_on way s first at budget scratch (Err (p, r)) h k =
    record { not_back = h; not_past = k; not_up = le_refl budget.0 }

-- ONWARD: the place never falls and never passes the end, and the budget never rises
pub atom_on : (way : Way) (s : List ℕ) (place : ℕ) (budget : Budget) (scratch : List ℕ) →
    Onward (start_of s place) (length s) budget.0 (atom_read way s place budget scratch)
unfolding atom_read
atom_on way s place budget scratch =
    let w = header_place_lem way s (start_of s place) (start_within s place) in
    from_on way s (first_place s place) (start_of s place) budget scratch (header_read way s place) w.0 w.1
