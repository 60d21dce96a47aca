-- THE BYTES FROM AN ATOM'S FIRST PLACE TO THE PLACE AFTER IT ARE THE ATOM: read alone, from place 0, they answer it
-- again, moved. Either all of it is there, header and body, and what stands behind changes nothing; or filled reading
-- met the end, and nothing stands behind.
use Rattle.std.specs.Prelude.{Result, Ok, Err}
use mathlib.Core.Path.{◌≡◌, refl, ◌∙◌, sym, ap, subst}
use mathlib.Core.Bool.{Bool, true, false, false≢true}
use mathlib.Core.List.{List, ◌++◌}
use Prim.Native.Nat.{ℕ, ◌+◌, ◌-◌, ◌≤◌, ◌<◌}
use native.Mathlib.Omega.{arith}
use lib.Dec.{leb}
use lib.ListN.{length, take, drop, length-drop, take-append-drop}
use lib.Seq.{length-take-le, take_all, take-append-le, drop-append-le, drop-drop}
use borrow.Author.Tests.{le-leb, lt-leb, leb-false}
use Rattle.types.proofs.Answers.{ok_three}
use Rattle.types.specs.Answers.{AtomAnswer, HeaderAnswer}
use Rattle.types.specs.Choice.{pick}
use Rattle.types.specs.Ways.{exact, up_to}
use Rattle.types.specs.Counters.{place_in}
use Rattle.types.specs.Forms.{known, body_length, charge_of, unknown}
use Rattle.types.proofs.Counters.{place_same}
use Rattle.types.specs.declared.Way.{Way}
use Rattle.types.specs.declared.Way.TheVariants as W
use Rattle.types.specs.declared.Kind.{Kind}
use Rattle.types.specs.declared.Kind.TheVariants as K
use Rattle.types.specs.declared.Special.{Special}
use Rattle.types.specs.declared.Special.TheVariants as S
use Rattle.types.specs.Kinds.{special_from, special_known}
use Rattle.types.specs.declared.Place.{Place}
use Rattle.types.specs.declared.Budget.{Budget}
use Rattle.types.specs.declared.Atom.{Atom}
use Rattle.types.specs.declared.Nucleus.{Nucleus}
use Rattle.types.specs.declared.Nucleus.TheVariants as N
use Rattle.types.specs.declared.Refusal.{Refusal}
use Rattle.types.specs.declared.Refusal.TheVariants as R
use Rattle.little.specs.Le.{from_le, number_at}
use Rattle.header.specs.Header.{header_from, header_read, header_kind, header_argument, header_length}
use Rattle.dictionary.proofs.Fronts.{front, front_grows}
use Rattle.reader.specs.Strings.{start_of, string_mark}
use Rattle.reader.proofs.Strings.{start_same}
use Rattle.reader.proofs.Delivered.{Outcome, whole, cut, cramped, outcome, string_read_lem, string_eof_lem, string_no_room}
use Rattle.atom.specs.Charges.{budget_after}
use Rattle.atom.specs.Atoms.{atom_taken, bytes_taken, bytes_atom, body_taken, charged, judged, atom_after, atom_from, atom_read}
use Rattle.atom.specs.Atoms.{first_place, special_nucleus}
use Rattle.atom.proofs.Numbers.{NumberForm, integers, floats, number_taken, integer_taken_lem, float_taken_lem}
use Rattle.promises.specs.Placed.{Stands, between, earlier, moved_mark, moved_nucleus, moved}
use Rattle.promises.proofs.Stands.{stands}

-- a part of a source, from a place up to another
module _ (s : List ℕ) (at end : ℕ) (on : at ≤ end) (within : end ≤ length s) where
  part_length : length (between s at end) ≡ end - at
  part_length = length-take-le (end - at) (drop at s) (rw length-drop (omega arith))

  -- its bytes are the source's
  part_bytes : (i n : ℕ) → i + n ≤ end - at → take n (drop i (between s at end)) ≡ take n (drop (at + i) s)
  part_bytes i n h =
      let p = between s at end in
      let rest = drop (end - at) (drop at s) in
      let l = part_length in
      let room : n ≤ length (drop i p) = rw length-drop (omega arith) in
      sym (take-append-le n (drop i p) rest room)
      ∙ ap (take n) (sym (drop-append-le i p rest (omega arith))
      ∙ ap (drop i) (take-append-drop (end - at) (drop at s)) ∙ drop-drop i at s)

  -- and up to the source's end it is all that is left
  part_all : end ≡ length s → between s at end ≡ drop at s
  part_all e = take_all (end - at) (drop at s) (rw length-drop (omega arith))

-- the header at the start of bytes
head_alone : (way : Way) (t : List ℕ) →
    header_read way t 0
    ≡ up_to way (length t) (header_length t) (λ p. Ok (record { 0 = p }, header_kind t, header_argument t))
    (Err (record { 0 = length t }, R.Eof))
unfolding header_from
head_alone way t =
    let z : 0 + header_length t ≡ header_length t = omega arith in
    ap (header_from way t) (place_same (length t) 0 (omega arith))
    ∙ ap (λ (n : ℕ). up_to way (length t) n (λ p. Ok (record { 0 = p }, header_kind t, header_argument t))
    (Err (record { 0 = length t }, R.Eof))) z

module _ (way : Way) (s : List ℕ) (at end : ℕ) (on : at ≤ end) (within : end ≤ length s) where
  -- the header reads the same, where it ends within the part
  module _ (next : Place) (kind : Kind) (arg : ℕ) where
    whole_header : at + header_length (drop at s) ≤ end →
        ◌≡◌ {A = HeaderAnswer}
        (Ok (record { 0 = at + header_length (drop at s) }, header_kind (drop at s), header_argument (drop at s)))
        (Ok (next, kind, arg)) →
        header_read way (between s at end) 0 ≡ Ok (earlier at next, kind, arg)
    whole_header h e =
        let p = between s at end in
        let rest = drop (end - at) (drop at s) in
        let back : p ++ rest ≡ drop at s = take-append-drop (end - at) (drop at s) in
        let l = part_length s at end on within in
        let grows = front_grows p rest in
        let n : header_length (p ++ rest) ≡ header_length (drop at s) = ap header_length back in
        let f = front p rest (omega arith) in
        let m = f.same_length in
        let fits : header_length p ≤ length p = omega arith in
        let x : header_length p ≡ at + header_length (drop at s) - at = omega arith in
        let k : header_kind p ≡ header_kind (drop at s) = sym f.same_kind ∙ ap header_kind back in
        let a : header_argument p ≡ header_argument (drop at s) = sym f.same_argument ∙ ap header_argument back in
        let parts = ok_three e in
        let i = sym parts.0 in
        let u = parts.1 in
        let v = parts.2 in
        let read : header_read way p 0 ≡ Ok (record { 0 = header_length p }, header_kind p, header_argument p) =
        head_alone way p ∙ simp (le-leb (header_length p) (length p) fits) in
        cc

    cut_header : length s < at + header_length (drop at s) → exact way ≡ false → end ≡ length s →
        ◌≡◌ {A = HeaderAnswer} (Ok (record { 0 = length s }, header_kind (drop at s), header_argument (drop at s)))
        (Ok (next, kind, arg)) →
        header_read way (between s at end) 0 ≡ Ok (earlier at next, kind, arg)
    cut_header h x e q =
        let all = part_all s at end on within e in
        let l : length (drop at s) ≡ length s - at = length-drop at s in
        let parts = ok_three q in
        let i = sym parts.0 in
        let u = parts.1 in
        let v = parts.2 in
        let short : length (drop at s) < header_length (drop at s) = omega arith in
        let read : header_read way (drop at s) 0
        ≡ Ok (record { 0 = length (drop at s) }, header_kind (drop at s), header_argument (drop at s)) =
        head_alone way (drop at s) ∙ simp (lt-leb (header_length (drop at s)) (length (drop at s)) short, x) in
        cc

    header_by : (t x : Bool) → leb (at + header_length (drop at s)) (length s) ≡ t → exact way ≡ x → next.0 ≤ end →
        pick {X = HeaderAnswer} t
        (Ok (record { 0 = at + header_length (drop at s) }, header_kind (drop at s), header_argument (drop at s)))
        (pick x (Err (record { 0 = length s }, R.Eof))
        (Ok (record { 0 = length s }, header_kind (drop at s), header_argument (drop at s))))
        ≡ Ok (next, kind, arg) →
        header_read way (between s at end) 0 ≡ Ok (earlier at next, kind, arg)
    header_by true x f g to e =
        let n : next.0 ≡ at + header_length (drop at s) = ap (λ (p : Place). p.0) (sym (ok_three e).0) in
        whole_header (omega arith) e
    header_by false true f g to e = absurd (false≢true cc)
    header_by false false f g to e =
        let n : next.0 ≡ length s = ap (λ (p : Place). p.0) (sym (ok_three e).0) in
        cut_header (leb-false (at + header_length (drop at s)) (length s) f) g (omega arith) e

    header_moved : next.0 ≤ end → header_from way s at ≡ Ok (next, kind, arg) →
        header_read way (between s at end) 0 ≡ Ok (earlier at next, kind, arg)
    unfolding header_from
    header_moved to e =
        header_by (leb (at + header_length (drop at s)) (length s)) (exact way) refl refl to e

  -- what follows it: an atom that was read
  module _ (first next : Place) (arg : ℕ) (after : Place) (left : Budget) (atom : Atom) where
    taken_moved : (kind : Kind) (rest : Budget) (to : Place) (nucleus other : Nucleus) →
        moved_nucleus at nucleus ≡ other → atom_taken kind arg first next rest to nucleus ≡ Ok (after, left, atom) →
        atom_taken kind arg (earlier at first) (earlier at next) rest (earlier at to) other
        ≡ Ok (earlier at after, left, moved at atom)
    taken_moved kind rest to nucleus other same e =
        let parts = ok_three e in
        let p = parts.0 in
        let q = parts.1 in
        let y = ap (moved at) parts.2 in
        cc

    module _ (scratch : List ℕ) (past : at ≤ next.0) (ended : after.0 ≡ end) where
      -- a number: its bytes are all there, or filled reading met the end
      number_by : (n : NumberForm) (rest : Budget) → ((c b : ℕ) → moved_nucleus at (n.nucleus c b) ≡ n.nucleus c b) →
          (count : ℕ) → body_length n.kind arg ≡ count → (t x : Bool) → leb (next.0 + count) (length s) ≡ t →
          exact way ≡ x →
          pick t (atom_taken n.kind arg first next rest (record { 0 = next.0 + count })
          (n.nucleus count (number_at count s next.0)))
          (pick x (Err (record { 0 = length s }, rest, R.Eof))
          (atom_taken n.kind arg first next rest (record { 0 = length s })
          (n.nucleus count (number_at count s next.0)))) ≡ Ok (after, left, atom) →
          up_to way (length (between s at end)) (next.0 - at + count)
          (λ p. atom_taken n.kind arg (earlier at first) (earlier at next) rest (record { 0 = p })
          (n.nucleus count (number_at count (between s at end) (next.0 - at))))
          (Err (record { 0 = length (between s at end) }, rest, R.Eof))
          ≡ Ok (earlier at after, left, moved at atom)
      unfolding number_at
      number_by n rest plain count c true x f g e =
          let m : next.0 + count ≡ after.0 = ap (λ (y : Place). y.0) (ok_three e).0 in
          let l = part_length s at end on within in
          let there : next.0 - at + count ≤ length (between s at end) = omega arith in
          let i : at + (next.0 - at) ≡ next.0 = omega arith in
          let to : next.0 - at + count ≡ next.0 + count - at = omega arith in
          let bytes : take count (drop (next.0 - at) (between s at end)) ≡ take count (drop next.0 s) =
          part_bytes s at end on within (next.0 - at) count (omega arith) ∙ ap (λ (k : ℕ). take count (drop k s)) i in
          let r = taken_moved n.kind rest (record { 0 = next.0 + count }) _ _
          (plain count (from_le (take count (drop next.0 s)))) e in
          rw (le-leb (next.0 - at + count) (length (between s at end)) there, bytes, to) r
      number_by n rest plain count c false true f g e = absurd (false≢true cc)
      number_by n rest plain count c false false f g e =
          let m : length s ≡ after.0 = ap (λ (y : Place). y.0) (ok_three e).0 in
          let all = part_all s at end on within (sym (m ∙ ended)) in
          let l = part_length s at end on within in
          let out = leb-false (next.0 + count) (length s) f in
          let short : length (between s at end) < next.0 - at + count = omega arith in
          let i : at + (next.0 - at) ≡ next.0 = omega arith in
          let to : length (between s at end) ≡ length s - at = omega arith in
          let bytes : take count (drop (next.0 - at) (between s at end)) ≡ take count (drop next.0 s) =
          ap (λ (t : List ℕ). take count (drop (next.0 - at) t)) all
          ∙ ap (take count) (drop-drop (next.0 - at) at s) ∙ ap (λ (k : ℕ). take count (drop k s)) i in
          let r = taken_moved n.kind rest (record { 0 = length s }) _ _
          (plain count (from_le (take count (drop next.0 s)))) e in
          rw (lt-leb (next.0 - at + count) (length (between s at end)) short, g, bytes, to) r

      number_moved : (n : NumberForm) (rest : Budget) →
          ((c b : ℕ) → moved_nucleus at (n.nucleus c b) ≡ n.nucleus c b) →
          number_taken n way s arg first next rest ≡ Ok (after, left, atom) →
          number_taken n way (between s at end) arg (earlier at first) (earlier at next) rest
          ≡ Ok (earlier at after, left, moved at atom)
      number_moved n rest plain e =
          number_by n rest plain (body_length n.kind arg) refl
          (leb (next.0 + body_length n.kind arg) (length s)) (exact way) refl refl e

      -- a string: it is all there
      mark_moved : (way : Way) (start n : ℕ) → moved_mark at (string_mark way start n) ≡ string_mark way (start - at) n
      mark_moved W.Filled start n = refl
      mark_moved W.ExactLent start n = refl
      mark_moved W.ExactCopied start n = refl

      string_moved : (rest : Budget) → next.0 ≤ length s → Outcome way s next.0 arg scratch →
          bytes_taken way s arg first next scratch rest ≡ Ok (after, left, atom) →
          bytes_taken way (between s at end) arg (earlier at first) (earlier at next) scratch rest
          ≡ Ok (earlier at after, left, moved at atom)
      string_moved rest inside (whole w r) e =
          let start = start_same s next.0 inside in
          let a = string_read_lem way s next.0 arg scratch w r in
          let read : atom_taken K.Bytes arg first next rest (record { 0 = start_of s next.0 + arg })
          (N.Bytes (string_mark way (start_of s next.0) arg)) ≡ Ok (after, left, atom) =
          sym (ap (bytes_atom arg first next rest) a) ∙ e in
          let m : start_of s next.0 + arg ≡ after.0 = ap (λ (y : Place). y.0) (ok_three read).0 in
          let l = part_length s at end on within in
          let low : next.0 - at ≤ length (between s at end) = omega arith in
          let start' = start_same (between s at end) (next.0 - at) low in
          let there : start_of (between s at end) (next.0 - at) + arg ≤ length (between s at end) = omega arith in
          let b = string_read_lem way (between s at end) (next.0 - at) arg scratch there r in
          let to : start_of (between s at end) (next.0 - at) + arg ≡ start_of s next.0 + arg - at = omega arith in
          let from : start_of (between s at end) (next.0 - at) ≡ start_of s next.0 - at = omega arith in
          ap (bytes_atom arg (earlier at first) (earlier at next) rest) b
          ∙ rw (to, from)
          (taken_moved K.Bytes rest (record { 0 = start_of s next.0 + arg }) _ _
          (ap N.Bytes (mark_moved way (start_of s next.0) arg)) read)
      string_moved rest inside (cut w) e =
          let a = ap (bytes_atom arg first next rest) (string_eof_lem way s next.0 arg scratch w).0 in
          absurd (false≢true cc)
      string_moved rest inside (cramped w r) e =
          let a = ap (bytes_atom arg first next rest) (string_no_room way s next.0 arg scratch w r).0 in
          absurd (false≢true cc)

      special_moved : (special : Special) → moved_nucleus at (special_nucleus special) ≡ special_nucleus special
      special_moved S.None = refl
      special_moved S.Unit = refl
      special_moved S.False = refl
      special_moved S.True = refl
      special_moved S.Named = refl
      special_moved S.DynamicMap = refl
      special_moved S.DynamicEnd = refl

      -- every kind
      body_moved : (kind : Kind) (rest : Budget) → next.0 ≤ length s →
          body_taken way s kind arg first next scratch rest ≡ Ok (after, left, atom) →
          body_taken way (between s at end) kind arg (earlier at first) (earlier at next) scratch rest
          ≡ Ok (earlier at after, left, moved at atom)
      body_moved K.Special rest inside e =
          taken_moved K.Special rest next _ _ (special_moved (special_known (special_from arg))) e
      body_moved K.Int rest inside e =
          integer_taken_lem way (between s at end) arg (earlier at first) (earlier at next) K.Int rest
          ∙ number_moved (integers K.Int) rest (λ c b. refl)
          (sym (integer_taken_lem way s arg first next K.Int rest) ∙ e)
      body_moved K.UInt rest inside e =
          integer_taken_lem way (between s at end) arg (earlier at first) (earlier at next) K.UInt rest
          ∙ number_moved (integers K.UInt) rest (λ c b. refl)
          (sym (integer_taken_lem way s arg first next K.UInt rest) ∙ e)
      body_moved K.Float rest inside e =
          float_taken_lem way (between s at end) arg (earlier at first) (earlier at next) rest
          ∙ number_moved floats rest (λ c b. refl) (sym (float_taken_lem way s arg first next rest) ∙ e)
      body_moved K.Sequence rest inside e = taken_moved K.Sequence rest next N.None N.None refl e
      body_moved K.Map rest inside e = taken_moved K.Map rest next N.None N.None refl e
      body_moved K.Symbol rest inside e = taken_moved K.Symbol rest next N.None N.None refl e
      body_moved K.Bytes rest inside e = string_moved rest inside (outcome way s next.0 arg scratch) e

-- the charge, and whether the atom is known, are the same for both
judged_both : (here there : Place) (budget : Budget) (paid : Result Budget Refusal) (k : Bool) (r : Refusal)
    (f g : Budget → AtomAnswer) (p q : Place) (b : Budget) (x y : Atom) →
    ((rest : Budget) → f rest ≡ Ok (p, b, x) → g rest ≡ Ok (q, b, y)) →
    charged here budget paid (λ rest. pick k (f rest) (Err (here, rest, r))) ≡ Ok (p, b, x) →
    charged there budget paid (λ rest. pick k (g rest) (Err (there, rest, r))) ≡ Ok (q, b, y)
judged_both here there budget (Ok rest) true r f g p q b x y h e = h rest e
judged_both here there budget (Ok rest) false r f g p q b x y h e = absurd (false≢true cc)
judged_both here there budget (Err why) k r f g p q b x y h e = absurd (false≢true cc)

module _ (way : Way) (s : List ℕ) (place : ℕ) (budget : Budget) (scratch : List ℕ) (after : Place) (left : Budget)
    (atom : Atom) (read : atom_read way s place budget scratch ≡ Ok (after, left, atom)) where
  at : ℕ
  at = place_in (length s) place

  its_place : Stands way s place after atom
  its_place = stands way s place budget scratch after left atom read

  its_end : (place_in (length s) place ≤ after.0) × (after.0 ≤ length s)
  its_end =
      let w = its_place in
      let e : atom.places.after.0 ≡ after.0 = ap (λ (p : Place). p.0) w.at_after in
      let a = w.at_first in
      let b = w.header_ordered in
      let c = w.body_ordered in
      let d = w.inside in
      (omega arith, omega arith)

  -- what follows its header, in those bytes
  followed : (h : HeaderAnswer) → h ≡ Ok (atom.places.body, atom.kind, atom.arg) →
      atom_from way s (first_place s place) budget scratch h ≡ Ok (after, left, atom) →
      atom_after way (between s (place_in (length s) place) after.0) atom.kind atom.arg
      (earlier (place_in (length s) place) (first_place s place))
      (earlier (place_in (length s) place) atom.places.body) budget scratch
      ≡ Ok (earlier (place_in (length s) place) after, left, moved (place_in (length s) place) atom)
  unfolding judged
  followed h is e =
      let w = its_place in
      let m = ap (λ (p : Place). p.0) w.at_after in
      let a = w.at_first in
      let b = w.header_ordered in
      let c = w.body_ordered in
      let d = w.inside in
      judged_both atom.places.body (earlier (place_in (length s) place) atom.places.body) budget
      (budget_after budget (charge_of atom.kind atom.arg)) (known atom.kind atom.arg)
      (unknown atom.kind atom.arg)
      (body_taken way s atom.kind atom.arg (first_place s place) atom.places.body scratch) _ after
      (earlier (place_in (length s) place) after) left atom (moved (place_in (length s) place) atom)
      (λ rest f. body_moved way s (place_in (length s) place) after.0 its_end.0 its_end.1 (first_place s place)
      atom.places.body atom.arg after left atom scratch (omega arith) refl atom.kind rest (omega arith) f)
      (subst (λ (x : HeaderAnswer). atom_from way s (first_place s place) budget scratch x ≡ Ok (after, left, atom)) is e)

  -- THE BYTES FROM FIRST TO AFTER ARE THE ATOM: they read alone as the same atom, with its places moved by the first
  pub alone :
      atom_read way (between s atom.places.first.0 atom.places.after.0) 0 budget scratch
      ≡ Ok (earlier atom.places.first.0 atom.places.after, left, moved atom.places.first.0 atom)
  unfolding atom_read
  alone =
      let w = its_place in
      let k : ℕ = place_in (length s) place in
      let part : List ℕ = between s k after.0 in
      let a : atom.places.first.0 ≡ k = w.at_first in
      let m : atom.places.after ≡ after = w.at_after in
      let n = ap (λ (p : Place). p.0) m in
      let c = w.body_ordered in
      let head : header_read way part 0 ≡ Ok (earlier k atom.places.body, atom.kind, atom.arg) =
      header_moved way s k after.0 its_end.0 its_end.1 atom.places.body atom.kind atom.arg
      (omega arith) w.at_body in
      let z : place_in (length part) 0 ≡ k - k = place_same (length part) 0 (omega arith) ∙ nought k in
      let f : first_place part 0 ≡ earlier k (first_place s place) = ap (λ (i : ℕ). record { 0 = i }) z in
      let body = followed (header_read way s place) w.at_body read in
      let r : atom_from way part (first_place part 0) budget scratch (header_read way part 0)
      ≡ Ok (earlier k after, left, moved k atom) =
      ap (λ (p : Place). atom_from way part p budget scratch (header_read way part 0)) f
      ∙ ap (atom_from way part (earlier k (first_place s place)) budget scratch) head ∙ body in
      subst (λ (i : ℕ). atom_read way (between s i atom.places.after.0) 0 budget scratch
      ≡ Ok (earlier i atom.places.after, left, moved i atom)) (sym a)
      (subst (λ (q : Place). atom_read way (between s k q.0) 0 budget scratch
      ≡ Ok (earlier k q, left, moved k atom)) (sym m) r)
    where
      nought : (k : ℕ) → 0 ≡ k - k
      nought k = omega arith
