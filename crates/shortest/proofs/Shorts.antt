-- Atoms that are accepted by their first byte: a UInt of one byte, a string, a sequence, each whole, is in shortest
-- form.
use mathlib.Core.Path.{◌≡◌, refl, ◌∙◌, sym, ap, subst}
use mathlib.Core.Bool.{Bool, true, false, false≢true}
use Rattle.std.specs.Prelude.{Option, Some, None}
use mathlib.Core.List.{List, ◌∷◌}
use Prim.Native.Nat.{ℕ, suc, ◌+◌, ◌-◌, ◌/◌, ◌%◌, ◌≤◌, ◌<◌}
use native.Mathlib.Omega.{arith}
use borrow.Author.Rules.{rules}
use borrow.Author.Tests.{eqb-true}
use borrow.Rule.Slice.Know.{Fit}
use borrow.Table.Referent.{f_int}
use lib.Dec.{eqb}
use lib.ListN.{length, take, drop, get_or, length-drop}
use lib.Seq.{drop-cons, length-take-le}
use mir.Syntax.{w8}
use Rattle.types.specs.Choice.{pick}
use Rattle.types.specs.Kinds.{kind_from, kind_known}
use Rattle.types.specs.Forms.{count_of, listed, known, body_length}
use Rattle.types.specs.declared.Kind.{Kind}
use Rattle.types.specs.declared.Kind.TheVariants as K
use Rattle.header.specs.Header.{more_follow, header_kind, header_argument}
use Rattle.header.proofs.Answers.{one_length, one_argument}
use Rattle.little.specs.Le.{from_le, number_at}
use Rattle.little.proofs.At.{number_lt}
use Rattle.dictionary.specs.Wholes.{IsAtom}
use Rattle.shortest.specs.Meanings.{meant_by, meant}
use Rattle.shortest.specs.Forms.{fewest, shortest}
use Rattle.shortest.specs.Checks.{between}
use Rattle.shortest.specs.Steps.{short_body, Fine}
use Rattle.shortest.proofs.Counts.{uint_one}
use Rattle.shortest.proofs.Headers.{one_byte}

-- an atom behind a header of one byte, of a kind
module _ (b : ℕ) (x : List ℕ) (kind : Kind) (one : more_follow b ≡ false) (k : kind_known (kind_from (b / 32)) ≡ kind)
    (is_Known : known kind (b % 16) ≡ true) (long : body_length kind (b % 16) ≡ length x) where
  small_atom : IsAtom (b ∷ x)
  small_atom =
      let n = one_length b x one in
      let a = one_argument b x one in
      record {
        its_header = omega arith;
        its_length =
            ap (λ (i : ℕ). suc i) (sym long)
            ∙ ap (λ (q : Kind). suc (body_length q (b % 16))) (sym k)
            ∙ ap (λ (i : ℕ). suc (body_length (header_kind (b ∷ x)) i)) (sym a)
            ∙ add_first (body_length (header_kind (b ∷ x)) (header_argument (b ∷ x)))
            ∙ ap (λ (i : ℕ). i + body_length (header_kind (b ∷ x)) (header_argument (b ∷ x))) (sym n);
        its_kind =
            ap (λ (q : Kind). known q (header_argument (b ∷ x))) k ∙ ap (known kind) a ∙ is_Known;
      }
    where
      add_first : (i : ℕ) → suc i ≡ 1 + i
      add_first i = omega arith

  small_shortest : b < 256 → fewest (count_of (b % 16)) (meant_by kind (b % 16) x) ≡ true → shortest (b ∷ x) ≡ true
  unfolding shortest meant
  small_shortest low f =
      let n = one_length b x one in
      let a = one_argument b x one in
      rw (one_byte b x low one, n, a, k) f

one_low : (s : List ℕ) (at : ℕ) → Fit (f_int w8) 0 s → from_le (take 1 (drop at s)) < 256
unfolding number_at
one_low s at bytes = number_lt 1 s at (λ i. (bytes i).fits)

-- what stands at a place, by its first byte
module _ (s : List ℕ) (at : ℕ) (within : at < length s) (bytes : Fit (f_int w8) 0 s) where
  module _ (n : ℕ) (room : n ≤ length s - (at + 1)) where
    abbrev b : ℕ
    b = get_or s at 0

    abbrev x : List ℕ
    x = take n (drop (suc at) s)

    here : between s at (at + 1 + n) ≡ b ∷ x
    here =
        let e : at + 1 + n - at ≡ suc n = omega arith in
        ap (λ (i : ℕ). take i (drop at s)) e ∙ ap (take (suc n)) (drop-cons s at 0 within)

    long : length x ≡ n
    long = length-take-le n (drop (suc at) s) (omega (arith, length-drop (suc at) s))

    fine : (kind : Kind) → more_follow b ≡ false → kind_known (kind_from (b / 32)) ≡ kind →
        known kind (b % 16) ≡ true → body_length kind (b % 16) ≡ n →
        fewest (count_of (b % 16)) (meant_by kind (b % 16) x) ≡ true → Fine s at (at + 1 + n)
    fine kind one k is_Known size f = record {
      whole = subst IsAtom (sym here) (small_atom b x kind one k is_Known (size ∙ sym long));
      in_form =
          ap shortest here
          ∙ small_shortest b x kind one k is_Known (size ∙ sym long) (bytes at).fits f;
      rises = omega arith;
      inside = omega arith;
    }

    one_allowed : known K.UInt 0 ≡ true
    unfolding listed
    one_allowed = refl

    uint_fine : b ≡ 0x40 → n ≡ 1 → Fine s at (at + 1 + n)
    uint_fine e one =
        fine K.UInt (ap more_follow e) (ap (λ (i : ℕ). kind_known (kind_from (i / 32))) e)
        (ap (λ (i : ℕ). known K.UInt (i % 16)) e ∙ one_allowed) (ap (λ (i : ℕ). body_length K.UInt (i % 16)) e ∙ sym one)
        (ap (λ (i : ℕ). fewest (count_of (i % 16)) (meant_by K.UInt (i % 16) x)) e ∙ uint_one (from_le x) low)
      where
        low : from_le x < 256
        low = subst (λ (i : ℕ). from_le (take i (drop (suc at) s)) < 256) (sym one) (one_low s (suc at) bytes)

    string_fine : b / 16 ≡ 14 → n ≡ b % 16 → Fine s at (at + 1 + n)
    string_fine e size =
        let seven : b / 32 ≡ 7 = omega arith in
        fine K.Bytes (ap (λ (i : ℕ). eqb (i % 2) 1) e) (ap (λ (i : ℕ). kind_known (kind_from i)) seven) refl (sym size) refl

    sequence_fine : b / 16 ≡ 8 → n ≡ 0 → Fine s at (at + 1 + n)
    sequence_fine e size =
        let four : b / 32 ≡ 4 = omega arith in
        fine K.Sequence (ap (λ (i : ℕ). eqb (i % 2) 1) e) (ap (λ (i : ℕ). kind_known (kind_from i)) four) refl (sym size) refl

    fine_by : (t u v : Bool) → eqb b 0x40 ≡ t → eqb (b / 16) 14 ≡ u → eqb (b / 16) 8 ≡ v →
        Some n ≡ pick t (Some 1) (pick u (Some (b % 16)) (pick v (Some 0) None)) → Fine s at (at + 1 + n)
    fine_by true u v e f g q = uint_fine (eqb-true b 0x40 e) cc
    fine_by false true v e f g q = string_fine (eqb-true (b / 16) 14 f) cc
    fine_by false false true e f g q = sequence_fine (eqb-true (b / 16) 8 g) cc
    fine_by false false false e f g q = absurd (false≢true cc)

    pub short_fine : (body : Option ℕ) → body ≡ short_body b → body ≡ Some n → Fine s at (at + 1 + n)
    short_fine body q p = fine_by (eqb b 0x40) (eqb (b / 16) 14) (eqb (b / 16) 8) refl refl refl (sym p ∙ q)

pub ruleset short_ends = (short_fine, rules)
