-- Where an atom stands that was read, and that the places of a chain of reads rise or stay level. It rests on the
-- definition of one atom, kind by kind, on `atom.Forward`, that the place never falls and never passes the end, and on
-- `atom.Placed`.
use Rattle.std.specs.Prelude.{Result, Ok, Err}
use mathlib.Core.Path.{◌≡◌, refl, ◌∙◌, sym, ap, subst}
use mathlib.Core.Bool.{Bool, true, false, false≢true}
use mathlib.Core.List.{List, [], ◌∷◌}
use Prim.Native.Nat.{ℕ, ◌+◌, ◌-◌, ◌≤◌, ◌<◌}
use native.Mathlib.Omega.{arith}
use lib.Dec.{ltb, leb}
use lib.ListN.{length, take, drop, length-drop}
use lib.Seq.{take_all, length-take-le}
use borrow.Author.Tests.{ltb-false, leb-true, leb-false}
use Rattle.types.specs.Answers.{AtomAnswer, HeaderAnswer}
use Rattle.types.specs.Choice.{pick}
use Rattle.types.specs.Ways.{exact}
use Rattle.types.specs.Counters.{place_in}
use Rattle.types.specs.Forms.{known, body_length, charge_of, unknown}
use Rattle.types.proofs.Counters.{place_within, place_same}
use Rattle.types.specs.declared.Way.{Way}
use Rattle.types.specs.declared.Kind.{Kind}
use Rattle.types.specs.declared.Kind.TheVariants as K
use Rattle.types.specs.declared.Place.{Place}
use Rattle.types.specs.declared.Places.{Places}
use Rattle.types.specs.declared.Budget.{Budget}
use Rattle.types.specs.declared.Atom.{Atom}
use Rattle.types.specs.declared.Nucleus.{Nucleus}
use Rattle.types.specs.declared.Nucleus.TheVariants as N
use Rattle.types.specs.declared.Refusal.{Refusal}
use Rattle.types.specs.declared.Refusal.TheVariants as R
use Rattle.header.specs.Header.{header_read}
use Rattle.header.proofs.Places.{header_place, header_place_lem}
use Rattle.little.specs.Le.{from_le, number_at}
use Rattle.reader.specs.Strings.{start_of, string_mark}
use Rattle.reader.proofs.Strings.{start_same}
use Rattle.reader.proofs.Delivered.{Outcome, whole, cut, cramped, outcome, string_read_lem, string_eof_lem, string_no_room}
use Rattle.atom.specs.Charges.{budget_after}
use Rattle.atom.specs.Atoms.{atom_taken, header_taken, bytes_taken, body_taken, charged, judged, atom_after, atom_from}
use Rattle.atom.specs.Atoms.{atom_read, first_place}
use Rattle.atom.proofs.Numbers.{NumberForm, integers, floats, number_taken, integer_taken_lem, float_taken_lem}
use Rattle.atom.proofs.Forward.{atom_place, atom_on, after_on}
use Rattle.atom.proofs.Agree.{exact_more}
use Rattle.atom.proofs.Placed.{Placed, atom_placed}
use Rattle.promises.specs.Placed.{between, held_by, Stands, Chain, ends, reads, exactly, Level, Ahead, Each}
use Rattle.promises.specs.Placed.{none, one, more}

-- a place past the end counts as the end
pub past_end : (n place : ℕ) → n ≤ place → place_in n place ≡ n
past_end n place h = by (ltb n place) refl
  where
    by : (t : Bool) → ltb n place ≡ t → pick t n place ≡ n
    by true e = refl
    by false e = let most = ltb-false n place e in omega arith

-- WHAT AN ATOM THAT WAS READ CARRIES, past its header: the header's kind and argument, where its body starts, a body as
-- long as they say, as far as the source goes, and what that holds
pub record Carried (way : Way) (s : List ℕ) (first next : Place) (kind : Kind) (arg : ℕ) (after : Place) (atom : Atom)
    : Type 0
  where
    pub its_kind : atom.kind ≡ kind
    pub its_argument : atom.arg ≡ arg
    pub its_body : atom.places.body ≡ next
    pub long : after.0 ≡ place_in (length s) (next.0 + body_length kind arg)
    pub holds : atom.nucleus ≡ held_by way kind arg next.0 (between s next.0 after.0)

abbrev Carries : Way → List ℕ → Place → Place → Kind → ℕ → AtomAnswer → Type 0
Carries way s first next kind arg (Ok (after, rest, atom)) = Carried way s first next kind arg after atom
Carries way s first next kind arg (Err (after, rest, r)) = Unit {0}

-- the bytes of a number, all there or up to the end
bytes_there : (s : List ℕ) (at n : ℕ) → take n (drop at s) ≡ between s at (at + n)
bytes_there s at n = let m : n ≡ at + n - at = omega arith in ap (λ (k : ℕ). take k (drop at s)) m

bytes_left : (s : List ℕ) (at n : ℕ) → length s < at + n → take n (drop at s) ≡ between s at (length s)
bytes_left s at n h =
    take_all n (drop at s) (rw length-drop (omega arith))
    ∙ sym (take_all (length s - at) (drop at s) (rw length-drop (omega arith)))

module _ (way : Way) (s : List ℕ) (arg : ℕ) (first next : Place) (scratch : List ℕ) (within : next.0 ≤ length s) where
  module _ (rest : Budget) where
    header_carries : (kind : Kind) (nucleus : Nucleus) → body_length kind arg ≡ 0 →
        ((bytes : List ℕ) → nucleus ≡ held_by way kind arg next.0 bytes) →
        Carries way s first next kind arg (header_taken kind arg first next nucleus rest)
    header_carries kind nucleus bodiless plain =
        let n : next.0 + body_length kind arg ≡ next.0 = omega arith in
        record {
          its_kind = refl;
          its_argument = refl;
          its_body = refl;
          long = sym (ap (place_in (length s)) n ∙ place_same (length s) next.0 within);
          holds = plain (between s next.0 next.0);
        }

    number_carries : (n : NumberForm) →
        ((bytes : List ℕ) → n.nucleus (body_length n.kind arg) (from_le bytes)
        ≡ held_by way n.kind arg next.0 bytes) →
        Carries way s first next n.kind arg (number_taken n way s arg first next rest)
    unfolding number_at
    number_carries n plain =
        by (body_length n.kind arg) refl (leb (next.0 + body_length n.kind arg) (length s)) (exact way) refl
      where
        by : (count : ℕ) → body_length n.kind arg ≡ count → (t e : Bool) → leb (next.0 + count) (length s) ≡ t →
            Carries way s first next n.kind arg
            (pick t (atom_taken n.kind arg first next rest (record { 0 = next.0 + count })
            (n.nucleus count (from_le (take count (drop next.0 s)))))
            (pick e (Err (record { 0 = length s }, rest, R.Eof))
            (atom_taken n.kind arg first next rest (record { 0 = length s })
            (n.nucleus count (from_le (take count (drop next.0 s)))))))
        by count c true e f = record {
          its_kind = refl;
          its_argument = refl;
          its_body = refl;
          long =
              sym (ap (λ (m : ℕ). place_in (length s) (next.0 + m)) c
              ∙ place_same (length s) (next.0 + count) (leb-true (next.0 + count) (length s) f));
          holds =
              ap (λ (m : ℕ). n.nucleus m (from_le (take count (drop next.0 s)))) (sym c)
              ∙ ap (λ (l : List ℕ). n.nucleus (body_length n.kind arg) (from_le l)) (bytes_there s next.0 count)
              ∙ plain (between s next.0 (next.0 + count));
        }
        by count c false true f = tt
        by count c false false f =
            let out = leb-false (next.0 + count) (length s) f in
            record {
              its_kind = refl;
              its_argument = refl;
              its_body = refl;
              long =
                  sym (ap (λ (m : ℕ). place_in (length s) (next.0 + m)) c
                  ∙ past_end (length s) (next.0 + count) (omega arith));
              holds =
                  ap (λ (m : ℕ). n.nucleus m (from_le (take count (drop next.0 s)))) (sym c)
                  ∙ ap (λ (l : List ℕ). n.nucleus (body_length n.kind arg) (from_le l))
                  (bytes_left s next.0 count out) ∙ plain (between s next.0 (length s));
            }

    string_carries : Outcome way s next.0 arg scratch →
        Carries way s first next K.Bytes arg (bytes_taken way s arg first next scratch rest)
    string_carries (whole w r) =
        let at = start_same s next.0 within in
        let there : next.0 + arg ≤ length s = subst (λ (n : ℕ). n + arg ≤ length s) at w in
        let m : arg ≡ length (between s next.0 (start_of s next.0 + arg)) =
        sym (length-take-le (start_of s next.0 + arg - next.0) (drop next.0 s)
        (rw length-drop (omega arith)) ∙ (omega arith)) in
        rw (string_read_lem way s next.0 arg scratch w r)
        (record {
          its_kind = refl;
          its_argument = refl;
          its_body = refl;
          long = ap (λ (n : ℕ). n + arg) at ∙ sym (place_same (length s) (next.0 + arg) there);
          holds =
              ap (λ (n : ℕ). N.Bytes (string_mark way n arg)) at
              ∙ ap (λ (n : ℕ). N.Bytes (string_mark way next.0 n)) m;
        })
    string_carries (cut w) = rw (string_eof_lem way s next.0 arg scratch w).0 tt
    string_carries (cramped w r) = rw (string_no_room way s next.0 arg scratch w r).0 tt

    taken_carries : (kind : Kind) →
        Carries way s first next kind arg (body_taken way s kind arg first next scratch rest)
    taken_carries K.Special = header_carries K.Special _ refl (λ bytes. refl)
    taken_carries K.Int =
        rw (integer_taken_lem way s arg first next K.Int rest) (number_carries (integers K.Int) (λ bytes. refl))
    taken_carries K.UInt =
        rw (integer_taken_lem way s arg first next K.UInt rest) (number_carries (integers K.UInt) (λ bytes. refl))
    taken_carries K.Float = rw (float_taken_lem way s arg first next rest) (number_carries floats (λ bytes. refl))
    taken_carries K.Sequence = header_carries K.Sequence N.None refl (λ bytes. refl)
    taken_carries K.Map = header_carries K.Map N.None refl (λ bytes. refl)
    taken_carries K.Symbol = header_carries K.Symbol N.None refl (λ bytes. refl)
    taken_carries K.Bytes = string_carries (outcome way s next.0 arg scratch)

  charged_carries : (kind : Kind) (budget : Budget) (paid : Result Budget Refusal) (k : Bool) (r : Refusal) →
      Carries way s first next kind arg
      (charged next budget paid
      (λ rest. pick k (body_taken way s kind arg first next scratch rest) (Err (next, rest, r))))
  charged_carries kind budget (Ok rest) true r = taken_carries rest kind
  charged_carries kind budget (Ok rest) false r = tt
  charged_carries kind budget (Err q) k r = tt

  after_carries : (kind : Kind) (budget : Budget) →
      Carries way s first next kind arg (atom_after way s kind arg first next budget scratch)
  unfolding judged
  after_carries kind budget =
      charged_carries kind budget (budget_after budget (charge_of kind arg)) (known kind arg) (unknown kind arg)

-- EVERY ATOM THAT IS READ STANDS WHERE IT SAYS, under every way
module _ (way : Way) (s : List ℕ) (place : ℕ) (budget : Budget) (scratch : List ℕ) (after : Place) (left : Budget)
    (atom : Atom) where
  carried : (next : Place) (kind : Kind) (arg : ℕ) → header_read way s place ≡ Ok (next, kind, arg) →
      place_in (length s) place ≤ next.0 → next.0 ≤ after.0 → after.0 ≤ length s →
      Placed (first_place s place) (Ok (after, left, atom)) →
      Carried way s (first_place s place) next kind arg after atom → Stands way s place after atom
  carried next kind arg header from on to p c =
      let k = c.its_kind in
      let a = c.its_argument in
      let l = c.long in
      let h = c.holds in
      let f : atom.places.first.0 ≡ place_in (length s) place = ap (λ (x : Places). x.first.0) p in
      let b = c.its_body in
      let n : atom.places.body.0 ≡ next.0 = ap (λ (x : Place). x.0) b in
      let e : atom.places.after ≡ after = ap (λ (x : Places). x.after) p in
      let m : atom.places.after.0 ≡ after.0 = ap (λ (x : Place). x.0) e in
      record {
        at_first = f;
        at_body = cc;
        at_after = e;
        header_ordered = omega arith;
        body_ordered = omega arith;
        inside = omega arith;
        body_long = cc;
        body_holds = cc;
      }

  by_header : (h : HeaderAnswer) → header_read way s place ≡ h → place_in (length s) place ≤ header_place h →
      header_place h ≤ length s → after.0 ≤ length s → Placed (first_place s place) (Ok (after, left, atom)) →
      atom_from way s (first_place s place) budget scratch h ≡ Ok (after, left, atom) → Stands way s place after atom
  by_header (Ok (next, kind, arg)) header from within to p e =
      let on = (after_on way s arg (first_place s place) next budget scratch within kind).not_back in
      carried next kind arg header from (subst (λ (a : AtomAnswer). next.0 ≤ atom_place a) e on) to p
      (subst (Carries way s (first_place s place) next kind arg) e
      (after_carries way s arg (first_place s place) next scratch within kind budget))
  by_header (Err (end, r)) header from within to p e = absurd (false≢true cc)

  pub stands : atom_read way s place budget scratch ≡ Ok (after, left, atom) → Stands way s place after atom
  unfolding atom_read
  stands e =
      let w = header_place_lem way s (place_in (length s) place) (place_within (length s) place) in
      let to = (atom_on way s place budget scratch).not_past in
      by_header (header_read way s place) refl w.0 w.1 (subst (λ (a : AtomAnswer). atom_place a ≤ length s) e to)
      (subst (Placed (first_place s place)) e (atom_placed way s place budget scratch)) e

-- A CHAIN: the first atom starts where reading starts, each other where the one before it ends
starts : {Allowed : Way → Type 0} {s : List ℕ} {place : ℕ} {a : Places} {later : List Places} →
    Chain Allowed s place (a ∷ later) → a.first.0 ≡ place_in (length s) place
starts {s = s} {place = place} (reads {after = after} {left} {atom} way budget scratch ok e c) =
    (stands way s place budget scratch after left atom e).at_first

body_from : {Allowed : Way → Type 0} {s : List ℕ} {place : ℕ} {a : Places} {later : List Places} →
    Chain Allowed s place (a ∷ later) → (a.first.0 ≤ a.body.0) × (a.body.0 ≤ a.after.0)
body_from {s = s} {place = place} (reads {after = after} {left} {atom} way budget scratch ok e c) =
    let w = stands way s place budget scratch after left atom e in (w.header_ordered, w.body_ordered)

-- an atom that was read, and the one that was read from the place after it
module _ {Allowed : Way → Type 0} (way : Way) (s : List ℕ) (place : ℕ) (budget : Budget) (scratch : List ℕ)
    (after : Place) (left : Budget) (atom : Atom) (e : atom_read way s place budget scratch ≡ Ok (after, left, atom))
    (b : Places) (later : List Places) (c : Chain Allowed s after.0 (b ∷ later)) where
  where_it_is : Stands way s place after atom
  where_it_is = stands way s place budget scratch after left atom e

  -- the one starts where the other ends
  joins : atom.places.after.0 ≡ b.first.0
  joins =
      let w = where_it_is in
      let j = w.inside in
      let m : atom.places.after.0 ≡ after.0 = ap (λ (x : Place). x.0) w.at_after in
      m ∙ sym (starts c ∙ place_same (length s) after.0 (omega arith))

  level : Level atom.places b
  level =
      let j = joins in
      let f = body_from c in
      let p = where_it_is.header_ordered in
      let q = where_it_is.body_ordered in
      record { first_level = omega arith; body_level = omega arith; after_level = omega arith }

  ahead : exact way ≡ true → Ahead atom.places b
  ahead x =
      let j = joins in
      let m : atom.places.after.0 ≡ after.0 = ap (λ (y : Place). y.0) where_it_is.at_after in
      let p = where_it_is.at_first in
      let t = exact_more way x s place budget scratch after left atom e in
      omega arith

-- one more in front
linked : (Under : Places → Places → Type 0) (a : Places) (later : List Places) →
    ((b : Places) (rest : List Places) → later ≡ b ∷ rest → Under a b) → Each Under later → Each Under (a ∷ later)
linked Under a [] f r = one
linked Under a (b ∷ rest) f r = more (f b rest refl) r

-- ALL THREE RISE OR STAY LEVEL, whatever the ways and the budgets
pub rises : {Allowed : Way → Type 0} {s : List ℕ} {place : ℕ} {places : List Places} → Chain Allowed s place places →
    Each Level places
rises ends = none
rises {Allowed} {s} {place} (reads {after = after} {left} {atom} {later} way budget scratch ok e c) =
    linked Level atom.places later
    (λ b rest q. level way s place budget scratch after left atom e b rest (subst (Chain Allowed s after.0) q c))
    (rises c)

-- UNDER EXACT READING THE FIRST PLACE RISES
pub rises_exactly : {s : List ℕ} {place : ℕ} {places : List Places} → Chain exactly s place places → Each Ahead places
rises_exactly ends = none
rises_exactly {s} {place} (reads {after = after} {left} {atom} {later} way budget scratch ok e c) =
    linked Ahead atom.places later
    (λ b rest q. ahead way s place budget scratch after left atom e b rest (subst (Chain exactly s after.0) q c) ok)
    (rises_exactly c)
