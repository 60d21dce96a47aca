-- DEMAND 1, of the atom: every input has a row of document 01's table, with its number and data, its place and its
-- budget, and the scratch after it; at most one row fits; and an atom is read exactly if it is good. That every entry
-- takes every input and ends is what it is for a contract without `requires` to be proved; that its answer is one, the
-- modules named after the crates say.
use Rattle.std.specs.Prelude.{Result, Ok, Err}
use mathlib.Core.Path.{◌≡◌, refl, ◌∙◌, sym, ap, subst}
use mathlib.Core.Logic.{◌⊎◌, inl, inr}
use mathlib.Core.Bool.{Bool, true, false}
use mathlib.Core.List.{List, [], ◌∷◌}
use Prim.Native.Nat.{ℕ, ◌+◌, ◌-◌, ◌≤◌, ◌<◌}
use native.Mathlib.Omega.{arith}
use native.Mathlib.Nat.{le_refl}
use lib.Dec.{leb, ltb, eqb}
use lib.IntN.{ℤ, pos}
use lib.ListN.{length, drop}
use borrow.Author.Tests.{ltb-true, ltb-false, leb-true, leb-false, le-ltb, lt-ltb, ne_eqb}
use Rattle.types.specs.declared.Refusal.{Refusal}
use Rattle.types.specs.Answers.{AtomAnswer, HeaderAnswer}
use Rattle.types.specs.Choice.{pick}
use Rattle.types.specs.Ways.{exact}
use Rattle.types.specs.Counters.{place_in, places_of}
use Rattle.types.specs.Kinds.{kind_code, kind_from}
use Rattle.types.specs.Forms.{allowed_count, allowed_float, count_of, number_charge, known, body_length, charge_of, is_string}
use Rattle.types.specs.Forms.{unknown, unsupported}
use Rattle.types.specs.declared.Way.{Way}
use Rattle.types.specs.declared.Kind.{Kind}
use Rattle.types.specs.declared.Kind.TheVariants as K
use Rattle.types.specs.declared.Place.{Place}
use Rattle.types.specs.declared.Budget.{Budget}
use Rattle.types.specs.declared.Refusal.TheVariants as R
use Rattle.types.proofs.Counters.{place_same}
use Rattle.header.specs.Header.{header_read, header_from, header_length, header_kind, header_argument}
use Rattle.reader.specs.Strings.{string_answer, string_scratch, string_mark, scratch_needed, start_of}
use Rattle.reader.proofs.Delivered.{Outcome, whole, cut, cramped, outcome, string_read_lem, string_eof_lem, string_no_room}
use Rattle.reader.proofs.Strings.{start_same}
use Rattle.integer.specs.Integers.{integer_of, integer_body}
use Rattle.little.specs.Le.{number_at}
use Rattle.float.specs.Floats.{float_of, float_body}
use Rattle.float.proofs.Counts.{allowed_is}
use Rattle.atom.specs.Atoms.{atom_read, atom_scratch, atom_from, scratch_from, atom_after, scratch_after, charged, judged}
use Rattle.atom.specs.Atoms.{special_taken, integer_taken, float_taken, bytes_taken, integer_atom, bytes_atom}
use Rattle.atom.specs.Atoms.{scratch_charged, first_place}
use Rattle.atom.proofs.Answers.{free}
use Rattle.promises.specs.Told.{Told, told, places_told, mark_told, integer_told, float_told, told_atom}
use Rattle.promises.specs.Held.{held, copied}
use Rattle.promises.specs.Rows.{Row, three, four_in_header, four_in_body, five, six, nine, read, Good}
use Rattle.promises.specs.Rows.{Number, int, uint, float, can_end, room_of, refusal, taking, end_of, less}
use Rattle.promises.proofs.Held.{outside, integer_told_lem, float_told_lem, special_told, string_copied}

-- a code of 8 or more is none of the eight kinds
pub unknown_kind : (n : ℕ) → 8 ≤ n → kind_from n ≡ Err (R.InvalidKind n)
unknown_kind n h =
    simp (
      differs 0 (omega arith),
      differs 1 (omega arith),
      differs 2 (omega arith),
      differs 3 (omega arith),
      differs 4 (omega arith),
      differs 5 (omega arith),
      differs 6 (omega arith),
      differs 7 (omega arith),
    )
  where
    differs : (i : ℕ) → i < 8 → eqb n i ≡ false
    differs i k = ne_eqb n i (λ e. omega arith)

-- a number is no string, and its body is of its count
no_string : (kind : Kind) → Number kind → is_string kind ≡ false
no_string K.Int int = refl
no_string K.UInt uint = refl
no_string K.Float float = refl
no_string K.Special none = elim none [ ]
no_string K.Sequence none = elim none [ ]
no_string K.Map none = elim none [ ]
no_string K.Symbol none = elim none [ ]
no_string K.Bytes none = elim none [ ]

can_end_lem : (way : Way) (kind : Kind) → Number kind → can_end way kind ≡ exact way
can_end_lem way K.Int int = refl
can_end_lem way K.UInt uint = refl
can_end_lem way K.Float float = refl
can_end_lem way K.Special none = elim none [ ]
can_end_lem way K.Sequence none = elim none [ ]
can_end_lem way K.Map none = elim none [ ]
can_end_lem way K.Symbol none = elim none [ ]
can_end_lem way K.Bytes none = elim none [ ]

its_count : (kind : Kind) → Number kind → (arg : ℕ) → body_length kind arg ≡ count_of arg
its_count K.Int int arg = refl
its_count K.UInt uint arg = refl
its_count K.Float float arg = refl
its_count K.Special none arg = elim none [ ]
its_count K.Sequence none arg = elim none [ ]
its_count K.Map none arg = elim none [ ]
its_count K.Symbol none arg = elim none [ ]
its_count K.Bytes none arg = elim none [ ]

-- a body that takes no scratch leaves it
no_room_lem : (way : Way) (kind : Kind) (arg : ℕ) → is_string kind ≡ false → room_of way kind arg ≡ 0
no_room_lem way kind arg i = ap (λ (b : Bool). pick b (scratch_needed way arg) 0) i

module _ (way : Way) (s : List ℕ) (place : ℕ) (budget : Budget) (scratch : List ℕ) (next : Place) (arg : ℕ) where
  -- an atom that was read, told by where it ends, the budget that it leaves and what it holds
  abbrev ending : Kind → ℕ → ℕ → List ℤ → Told
  ending kind end rest holds =
      told 0
      (pos end ∷ pos rest ∷ pos (kind_code kind) ∷ pos arg
      ∷ places_told (places_of (first_place s place) next (record { 0 = end })) holds)

  -- the row of a read, by the place, the budget and the scratch that it leaves, and by what it holds
  read_as : (kind : Kind) (end rest : ℕ) (after : List ℕ) (holds : List ℤ) →
      Good way s budget scratch next kind arg →
      place_in (length s) (next.0 + body_length kind arg) ≡ end → budget.0 - charge_of kind arg ≡ rest →
      copied s next.0 (room_of way kind arg) scratch ≡ after → held way s next.0 kind arg ≡ holds →
      Row way s place budget scratch (Ok (next, kind, arg)) (ending kind end rest holds) after
  read_as kind end rest after holds g e f h k =
      let answer : taking way s place next budget kind arg ≡ ending kind end rest holds = cc in
      subst (λ (x : Told). Row way s place budget scratch (Ok (next, kind, arg)) x after) answer
      (subst (λ (t : List ℕ). Row way s place budget scratch (Ok (next, kind, arg))
      (taking way s place next budget kind arg) t) h (read g))

  -- a header only
  headed : (kind : Kind) (holds : List ℤ) → known kind arg ≡ true → body_length kind arg ≡ 0 →
      charge_of kind arg ≡ 0 → is_string kind ≡ false → held way s next.0 kind arg ≡ holds → next.0 ≤ length s →
      Row way s place budget scratch (Ok (next, kind, arg)) (ending kind next.0 budget.0 holds) scratch
  headed kind holds k l c i h within =
      let there : next.0 + body_length kind arg ≤ length s = omega arith in
      let room = no_room_lem way kind arg i in
      let same : next.0 + body_length kind arg ≡ next.0 = omega arith in
      read_as kind next.0 budget.0 scratch holds
      (record { form_known = k; afforded = omega arith; body_there = inl there; room_there = omega arith })
      (place_same (length s) (next.0 + body_length kind arg) there ∙ same) (omega arith)
      (ap (λ (n : ℕ). copied s next.0 n scratch) room) h

  -- a charge, and what follows it
  charges : (kind : Kind) (body : Budget → AtomAnswer) (after : Result Budget Refusal → List ℕ) (t : Bool) →
      ltb budget.0 (charge_of kind arg) ≡ t → after (Err R.TooManyBytesRead) ≡ scratch →
      (charge_of kind arg ≤ budget.0 →
      Row way s place budget scratch (Ok (next, kind, arg)) (told_atom (body (less budget (charge_of kind arg))))
      (after (Ok (less budget (charge_of kind arg))))) →
      Row way s place budget scratch (Ok (next, kind, arg))
      (told_atom
      (charged next budget (pick t (Err R.TooManyBytesRead) (Ok (less budget (charge_of kind arg)))) body))
      (after (pick t (Err R.TooManyBytesRead) (Ok (less budget (charge_of kind arg)))))
  charges kind body after true e k f = rw k (five (ltb-true budget.0 (charge_of kind arg) e))
  charges kind body after false e k f = f (ltb-false budget.0 (charge_of kind arg) e)

  -- the body of an atom that is known, and the refusal of one that is not
  abbrev formed : Kind → (Budget → AtomAnswer) → Budget → AtomAnswer
  formed kind body rest = pick (known kind arg) (body rest) (Err (next, rest, unknown kind arg))

  -- a number of an allowed count, whose bytes are there
  number_whole : (kind : Kind) (holds : List ℤ) → Number kind → known kind arg ≡ true →
      charge_of kind arg ≤ budget.0 → held way s next.0 kind arg ≡ holds → next.0 + count_of arg ≤ length s →
      Row way s place budget scratch (Ok (next, kind, arg))
      (ending kind (next.0 + count_of arg) (budget.0 - charge_of kind arg) holds) scratch
  number_whole kind holds w k b h there =
      let n = its_count kind w arg in
      let there' : next.0 + body_length kind arg ≤ length s = omega arith in
      let room = no_room_lem way kind arg (no_string kind w) in
      read_as kind (next.0 + count_of arg) (budget.0 - charge_of kind arg) scratch holds
      (record { form_known = k; afforded = b; body_there = inl there'; room_there = omega arith })
      (place_same (length s) (next.0 + body_length kind arg) there' ∙ ap (λ (m : ℕ). next.0 + m) n) refl
      (ap (λ (n : ℕ). copied s next.0 n scratch) room) h

  -- or whose end is filled
  number_filled : (kind : Kind) (holds : List ℤ) → Number kind → known kind arg ≡ true →
      charge_of kind arg ≤ budget.0 → held way s next.0 kind arg ≡ holds → length s < next.0 + count_of arg →
      exact way ≡ false →
      Row way s place budget scratch (Ok (next, kind, arg))
      (ending kind (length s) (budget.0 - charge_of kind arg) holds) scratch
  number_filled kind holds w k b h out x =
      let n = its_count kind w arg in
      let out' : length s < next.0 + body_length kind arg = omega arith in
      let room = no_room_lem way kind arg (no_string kind w) in
      read_as kind (length s) (budget.0 - charge_of kind arg) scratch holds
      (record { form_known = k; afforded = b; body_there = inr (can_end_lem way kind w ∙ x); room_there = omega arith })
      (outside (length s) (next.0 + body_length kind arg) out') refl
      (ap (λ (n : ℕ). copied s next.0 n scratch) room) h

  -- or that is cut
  number_cut : (kind : Kind) → Number kind → known kind arg ≡ true → charge_of kind arg ≤ budget.0 →
      length s < next.0 + count_of arg → exact way ≡ true →
      Row way s place budget scratch (Ok (next, kind, arg)) (refusal 4 (end_of s) (less budget (charge_of kind arg)) [])
      scratch
  number_cut kind w k b out x =
      let n = its_count kind w arg in
      let out' : length s < next.0 + body_length kind arg = omega arith in
      four_in_body b k (can_end_lem way kind w ∙ x) out'

  -- what a float holds
  float_holds : allowed_float (count_of arg) ≡ true →
      held way s next.0 K.Float arg
      ≡ pos 3 ∷ pos (number_at (count_of arg) s next.0)
      ∷ float_told (float_of (count_of arg) (number_at (count_of arg) s next.0))
  float_holds e =
      ap (λ (l : List ℤ). pos 3 ∷ pos (number_at (count_of arg) s next.0) ∷ l)
      (sym (float_told_lem (count_of arg) (number_at (count_of arg) s next.0) (allowed_is (count_of arg) e)))

  -- an integer, by the tests that it passes: it is known, its bytes are there, the way is exact
  integers : (kind : Kind) → Number kind → charge_of kind arg ≤ budget.0 →
      (known kind arg ≡ true →
      held way s next.0 kind arg
      ≡ pos 2 ∷ integer_told (integer_of kind (count_of arg) (number_at (count_of arg) s next.0))) →
      (a t x : Bool) → known kind arg ≡ a → leb (next.0 + count_of arg) (length s) ≡ t → exact way ≡ x →
      Row way s place budget scratch (Ok (next, kind, arg))
      (told_atom
      (pick a
      (integer_atom kind arg (first_place s place) next (less budget (charge_of kind arg))
      (integer_body way s next.0 kind (count_of arg)))
      (Err (next, less budget (charge_of kind arg), unsupported kind (count_of arg))))) scratch
  unfolding integer_body
  integers kind w b h false t x e f g = six w b e
  integers kind w b h true true x e f g =
      rw f (number_whole kind _ w e b (h e) (leb-true (next.0 + count_of arg) (length s) f))
  integers kind w b h true false true e f g =
      rw (f, g) (number_cut kind w e b (leb-false (next.0 + count_of arg) (length s) f) g)
  integers kind w b h true false false e f g =
      rw (f, g) (number_filled kind _ w e b (h e) (leb-false (next.0 + count_of arg) (length s) f) g)

  -- a float likewise
  floats : charge_of K.Float arg ≤ budget.0 → (a t x : Bool) → known K.Float arg ≡ a →
      leb (next.0 + count_of arg) (length s) ≡ t → exact way ≡ x →
      Row way s place budget scratch (Ok (next, K.Float, arg))
      (told_atom (formed K.Float (float_taken way s arg (first_place s place) next) (less budget (charge_of K.Float arg))))
      scratch
  unfolding float_body
  floats b false t x e f g = rw e (six float b e)
  floats b true true x e f g =
      rw (e, f) (number_whole K.Float _ float e b (float_holds e) (leb-true (next.0 + count_of arg) (length s) f))
  floats b true false true e f g =
      rw (e, f, g) (number_cut K.Float float e b (leb-false (next.0 + count_of arg) (length s) f) g)
  floats b true false false e f g =
      rw (e, f, g)
      (number_filled K.Float _ float e b (float_holds e) (leb-false (next.0 + count_of arg) (length s) f) g)

  -- a string, by its three outcomes
  strings : arg ≤ budget.0 → next.0 ≤ length s → Outcome way s next.0 arg scratch →
      Row way s place budget scratch (Ok (next, K.Bytes, arg))
      (told_atom
      (bytes_atom arg (first_place s place) next (less budget arg) (string_answer way s next.0 arg scratch)))
      (string_scratch way s next.0 arg scratch)
  strings b h (whole w r) =
      let at = start_same s next.0 h in
      let there : next.0 + arg ≤ length s = subst (λ (n : ℕ). n + arg ≤ length s) at w in
      rw (string_read_lem way s next.0 arg scratch w r)
      (read_as K.Bytes (start_of s next.0 + arg) (budget.0 - arg) (string_scratch way s next.0 arg scratch) _
      (record { form_known = refl; afforded = b; body_there = inl there; room_there = r })
      (place_same (length s) (next.0 + arg) there ∙ ap (λ (n : ℕ). n + arg) (sym at)) refl
      (ap (λ (n : ℕ). copied s n (scratch_needed way arg) scratch) (sym at)
      ∙ sym (string_copied way s next.0 arg scratch w r))
      (ap (λ (n : ℕ). pos 4 ∷ mark_told (string_mark way n arg)) (sym at)))
  strings b h (cut w) =
      let e = string_eof_lem way s next.0 arg scratch w in
      let out : length s < next.0 + arg = subst (λ (n : ℕ). length s < n + arg) (start_same s next.0 h) w in
      rw (e.0, e.1) (four_in_body b refl refl out)
  strings b h (cramped w r) =
      let e = string_no_room way s next.0 arg scratch w r in
      let there : next.0 + arg ≤ length s = subst (λ (n : ℕ). n + arg ≤ length s) (start_same s next.0 h) w in
      rw (e.0, e.1, start_same s next.0 h) (nine b there r)

-- a special, by its argument
specials : (way : Way) (s : List ℕ) (place : ℕ) (budget : Budget) (scratch : List ℕ) (next : Place) (n : ℕ) →
    next.0 ≤ length s → (t : Bool) → ltb n 7 ≡ t →
    Row way s place budget scratch (Ok (next, K.Special, n))
    (told_atom (formed way s place budget scratch next n K.Special (special_taken n (first_place s place) next) budget))
    scratch
specials way s place budget scratch next n h true e =
    rw e (headed way s place budget scratch next n K.Special _ e refl refl refl (special_told n (ltb-true n 7 e)) h)
specials way s place budget scratch next n h false e = rw e (three (ltb-false n 7 e))

-- what follows a header
after_header : (way : Way) (s : List ℕ) (place : ℕ) (budget : Budget) (scratch : List ℕ) (next : Place) (arg : ℕ)
    (kind : Kind) → next.0 ≤ length s →
    Row way s place budget scratch (Ok (next, kind, arg))
    (told_atom (atom_after way s kind arg (first_place s place) next budget scratch))
    (scratch_after way s kind arg next budget scratch)
unfolding judged
after_header way s place budget scratch next arg K.Special h =
    rw (free budget) (specials way s place budget scratch next arg h (ltb arg 7) refl)
after_header way s place budget scratch next arg K.Int h =
    charges way s place budget scratch next arg K.Int
    (formed way s place budget scratch next arg K.Int (integer_taken way s K.Int arg (first_place s place) next))
    (λ rest. scratch) (ltb budget.0 (number_charge (count_of arg))) refl refl
    (λ b. integers way s place budget scratch next arg K.Int int b
    (λ e. ap (λ (l : List ℤ). pos 2 ∷ l)
    (sym (integer_told_lem (count_of arg) e (number_at (count_of arg) s next.0) K.Int)))
    (allowed_count (count_of arg)) (leb (next.0 + count_of arg) (length s)) (exact way) refl refl refl)
after_header way s place budget scratch next arg K.UInt h =
    charges way s place budget scratch next arg K.UInt
    (formed way s place budget scratch next arg K.UInt (integer_taken way s K.UInt arg (first_place s place) next))
    (λ rest. scratch) (ltb budget.0 (number_charge (count_of arg))) refl refl
    (λ b. integers way s place budget scratch next arg K.UInt uint b
    (λ e. ap (λ (l : List ℤ). pos 2 ∷ l)
    (sym (integer_told_lem (count_of arg) e (number_at (count_of arg) s next.0) K.UInt)))
    (allowed_count (count_of arg)) (leb (next.0 + count_of arg) (length s)) (exact way) refl refl refl)
after_header way s place budget scratch next arg K.Float h =
    charges way s place budget scratch next arg K.Float
    (formed way s place budget scratch next arg K.Float (float_taken way s arg (first_place s place) next))
    (λ rest. scratch) (ltb budget.0 (number_charge (count_of arg))) refl refl
    (λ b. floats way s place budget scratch next arg b (allowed_float (count_of arg))
    (leb (next.0 + count_of arg) (length s)) (exact way) refl refl refl)
after_header way s place budget scratch next arg K.Sequence h =
    rw (free budget) (headed way s place budget scratch next arg K.Sequence _ refl refl refl refl refl h)
after_header way s place budget scratch next arg K.Map h =
    rw (free budget) (headed way s place budget scratch next arg K.Map _ refl refl refl refl refl h)
after_header way s place budget scratch next arg K.Symbol h =
    rw (free budget) (headed way s place budget scratch next arg K.Symbol _ refl refl refl refl refl h)
after_header way s place budget scratch next arg K.Bytes h =
    charges way s place budget scratch next arg K.Bytes (bytes_taken way s arg (first_place s place) next scratch)
    (λ rest. scratch_charged way s next.0 arg scratch rest) (ltb budget.0 arg) refl refl
    (λ b. strings way s place budget scratch next arg b h (outcome way s next.0 arg scratch))

-- a header, by the tests that it passes: it ends within the source, the way is exact
from_header : (way : Way) (s : List ℕ) (place : ℕ) (budget : Budget) (scratch : List ℕ) (at end : ℕ) (kind : Kind)
    (arg : ℕ) (t x : Bool) → leb end (length s) ≡ t → exact way ≡ x → (header : HeaderAnswer) →
    header
    ≡ pick t (Ok (record { 0 = end }, kind, arg))
    (pick x (Err (end_of s, R.Eof)) (Ok (end_of s, kind, arg))) →
    Row way s place budget scratch header (told_atom (atom_from way s (first_place s place) budget scratch header))
    (scratch_from way s budget scratch header)
from_header way s place budget scratch at end kind arg true x e f header h =
    rw h (after_header way s place budget scratch (record { 0 = end }) arg kind (leb-true end (length s) e))
from_header way s place budget scratch at end kind arg false true e f header h = rw h (four_in_header f)
from_header way s place budget scratch at end kind arg false false e f header h =
    rw h (after_header way s place budget scratch (end_of s) arg kind (le_refl (length s)))

-- THE TABLE: an atom is read, or refused by a row of the table
pub by_the_table : (way : Way) (s : List ℕ) (place : ℕ) (budget : Budget) (scratch : List ℕ) →
    Row way s place budget scratch (header_read way s place) (told_atom (atom_read way s place budget scratch))
    (atom_scratch way s place budget scratch)
unfolding atom_read atom_scratch header_from
by_the_table way s place budget scratch =
    let at : ℕ = place_in (length s) place in
    from_header way s place budget scratch at (at + header_length (drop at s)) (header_kind (drop at s))
    (header_argument (drop at s)) (leb (at + header_length (drop at s)) (length s)) (exact way) refl refl
    (header_read way s place) refl

-- AT MOST ONE ROW FITS: what a row tells, and the scratch after it, are what the tests give in their order
abbrev not_known : Budget → Place → Kind → ℕ → Told
not_known budget next kind arg =
    pick (eqb (kind_code kind) 0) (refusal 3 next budget (arg ∷ []))
    (refusal 6 next (less budget (charge_of kind arg)) (kind_code kind ∷ count_of arg ∷ []))

abbrev verdict : Way → List ℕ → ℕ → Budget → List ℕ → HeaderAnswer → Told
verdict way s place budget scratch (Err (end, r)) = refusal 4 (end_of s) budget []
verdict way s place budget scratch (Ok (next, kind, arg)) =
    pick (ltb budget.0 (charge_of kind arg)) (refusal 5 next budget [])
    (pick (known kind arg)
    (pick (ltb (length s) (next.0 + body_length kind arg))
    (pick (can_end way kind) (refusal 4 (end_of s) (less budget (charge_of kind arg)) [])
    (taking way s place next budget kind arg))
    (pick (ltb (length scratch) (room_of way kind arg)) (refusal 9 next (less budget (charge_of kind arg)) [])
    (taking way s place next budget kind arg)))
    (not_known budget next kind arg))

abbrev afterwards : Way → List ℕ → List ℕ → HeaderAnswer → List ℕ
afterwards way s scratch (Err (end, r)) = scratch
afterwards way s scratch (Ok (next, kind, arg)) = copied s next.0 (room_of way kind arg) scratch

no_special : (kind : Kind) → Number kind → eqb (kind_code kind) 0 ≡ false
no_special K.Int int = refl
no_special K.UInt uint = refl
no_special K.Float float = refl
no_special K.Special none = elim none [ ]
no_special K.Sequence none = elim none [ ]
no_special K.Map none = elim none [ ]
no_special K.Symbol none = elim none [ ]
no_special K.Bytes none = elim none [ ]

read_verdict : (way : Way) (s : List ℕ) (place : ℕ) (budget : Budget) (scratch : List ℕ) (next : Place) (kind : Kind)
    (arg : ℕ) (t : Bool) → ltb (length s) (next.0 + body_length kind arg) ≡ t →
    Good way s budget scratch next kind arg →
    taking way s place next budget kind arg ≡ verdict way s place budget scratch (Ok (next, kind, arg))
read_verdict way s place budget scratch next kind arg false e g =
    rw (
      le-ltb budget.0 (charge_of kind arg) g.afforded,
      g.form_known,
      e,
      le-ltb (length scratch) (room_of way kind arg) g.room_there,
    ) refl
read_verdict way s place budget scratch next kind arg true e g =
    rw (le-ltb budget.0 (charge_of kind arg) g.afforded, g.form_known, e, filled g.body_there) refl
  where
    filled : (next.0 + body_length kind arg ≤ length s) ⊎ (can_end way kind ≡ false) → can_end way kind ≡ false
    filled (inl there) =
        absurd
        (past (length s) (next.0 + body_length kind arg) (ltb-true (length s) (next.0 + body_length kind arg) e) there)
      where
        past : (n m : ℕ) → n < m → m ≤ n → ⊥
        past n m h k = omega arith
    filled (inr isnt) = isnt

row_verdict : {way : Way} {s : List ℕ} {place : ℕ} {budget : Budget} {scratch : List ℕ} {header : HeaderAnswer}
    {answer : Told} {after : List ℕ} → Row way s place budget scratch header answer after →
    answer ≡ verdict way s place budget scratch header
row_verdict (four_in_header x) = refl
row_verdict {budget = budget} (three {next} {arg} h) = rw (le-ltb budget.0 0 (omega arith), le-ltb arg 7 h) refl
row_verdict {budget = budget} (five {next} {kind} {arg} h) = rw (lt-ltb budget.0 (charge_of kind arg) h) refl
row_verdict {budget = budget} (six {next} {kind} {arg} w b k) =
    rw (le-ltb budget.0 (charge_of kind arg) b, k, no_special kind w) refl
row_verdict {s = s} {budget = budget} (four_in_body {next} {kind} {arg} b k c out) =
    rw (le-ltb budget.0 (charge_of kind arg) b, k, lt-ltb (length s) (next.0 + body_length kind arg) out, c) refl
row_verdict {way = way} {s = s} {budget = budget} {scratch = scratch} (nine {next} {arg} b there r) =
    rw (
      le-ltb budget.0 arg b,
      le-ltb (length s) (next.0 + arg) there,
      lt-ltb (length scratch) (scratch_needed way arg) r,
    ) refl
row_verdict {way = way} {s = s} {place = place} {budget = budget} {scratch = scratch} (read {next} {kind} {arg} g) =
    read_verdict way s place budget scratch next kind arg (ltb (length s) (next.0 + body_length kind arg)) refl g

row_scratch : {way : Way} {s : List ℕ} {place : ℕ} {budget : Budget} {scratch : List ℕ} {header : HeaderAnswer}
    {answer : Told} {after : List ℕ} → Row way s place budget scratch header answer after →
    after ≡ pick (eqb answer.number 0) (afterwards way s scratch header) scratch
row_scratch (four_in_header x) = refl
row_scratch (three h) = refl
row_scratch (five h) = refl
row_scratch (six w b k) = refl
row_scratch (four_in_body b k c out) = refl
row_scratch (nine b there r) = refl
row_scratch (read g) = refl

pub one_row : {way : Way} {s : List ℕ} {place : ℕ} {budget : Budget} {scratch : List ℕ} {header : HeaderAnswer}
    {a b : Told} {t u : List ℕ} → Row way s place budget scratch header a t →
    Row way s place budget scratch header b u → (a ≡ b) × (t ≡ u)
one_row {way} {s} {place} {budget} {scratch} {header} {a} {b} p q =
    let e : a ≡ b = row_verdict p ∙ sym (row_verdict q) in (
      e,
      row_scratch p
          ∙ ap (λ (x : Told). pick (eqb x.number 0) (afterwards way s scratch header) scratch) e
          ∙ sym (row_scratch q),
    )

-- A ROW THAT TELLS 0 IS OF A GOOD ATOM
pub good_row : {way : Way} {s : List ℕ} {place : ℕ} {budget : Budget} {scratch : List ℕ} {header : HeaderAnswer}
    {answer : Told} {after : List ℕ} → Row way s place budget scratch header answer after → answer.number ≡ 0 →
    (next : Place) × (kind : Kind) × (arg : ℕ) × (header ≡ Ok (next, kind, arg))
    × Good way s budget scratch next kind arg
good_row (four_in_header x) e = absurd (omega arith)
good_row (three h) e = absurd (omega arith)
good_row (five h) e = absurd (omega arith)
good_row (six w b k) e = absurd (omega arith)
good_row (four_in_body b k c out) e = absurd (omega arith)
good_row (nine b there r) e = absurd (omega arith)
good_row (read {next} {kind} {arg} g) e = (next, kind, arg, refl, g)

-- A GOOD ATOM IS READ
pub good_read : {way : Way} {s : List ℕ} {place : ℕ} {budget : Budget} {scratch : List ℕ} {header : HeaderAnswer}
    {answer : Told} {after : List ℕ} {next : Place} {kind : Kind} {arg : ℕ} → header ≡ Ok (next, kind, arg) →
    Row way s place budget scratch header answer after → Good way s budget scratch next kind arg →
    (answer ≡ taking way s place next budget kind arg) × (after ≡ copied s next.0 (room_of way kind arg) scratch)
good_read {way} {s} {place} {budget} {scratch} {header} {answer} {after} {next} {kind} {arg} e r g =
    one_row (subst (λ (x : HeaderAnswer). Row way s place budget scratch x answer after) e r) (read g)
