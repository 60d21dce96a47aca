-- An atom that the step has passed, by its places: where its bytes are in the source, and what its first byte says of
-- it where its header is that byte. Behind a longer header that is the writer's there is no number.
use mathlib.Core.Path.{◌≡◌, refl, ◌∙◌, sym, ap}
use mathlib.Core.Bool.{Bool, true, false, ◌&&◌, false≢true}
use mathlib.Core.List.{List, [], ◌∷◌}
use Prim.Native.Nat.{ℕ, zero, suc, ◌+◌, ◌-◌, ◌/◌, ◌%◌, ◌^◌, ◌≤◌, ◌<◌}
use native.Mathlib.Omega.{arith}
use native.Mathlib.Nat.{mod-eq_of_lt, zero-add, suc-add}
use borrow.Author.Rules.{rules}
use borrow.Author.Tests.{ltb-true, ltb-false, eqb-true}
use borrow.Rule.Slice.Know.{Fit}
use borrow.Table.Referent.{f_int}
use lib.Dec.{ltb, eqb, lit<}
use lib.ListN.{length, take, drop, get_or, length-drop}
use lib.Seq.{get_or-take, get_or-drop, length-take-le, drop-drop}
use mir.Syntax.{w8}
use Rattle.types.specs.Kinds.{kind_code, kind_from, kind_known}
use Rattle.types.specs.Forms.{count_of, allowed_count, allowed_float, known, body_length}
use Rattle.types.specs.declared.Kind.{Kind}
use Rattle.types.specs.declared.Kind.TheVariants as K
use Rattle.types.specs.declared.Places.{Places}
use Rattle.header.specs.Header.{header_kind, header_argument, header_length, header_bytes, more_follow}
use Rattle.header.proofs.Answers.{bytes_one, one_argument, more_length}
use Rattle.header.proofs.Fewest.{length_bounds, argument_word, count_least}
use Rattle.little.specs.Le.{number_at}
use Rattle.little.specs.Twos.{twos}
use Rattle.little.specs.Counts.{shortest_u, shortest_s}
use Rattle.integer.proofs.Counts.{allowed_bounds}
use Rattle.dictionary.specs.Wholes.{IsAtom}
use Rattle.shortest.specs.Meanings.{Bytes, meant_by, meant}
use Rattle.shortest.specs.Forms.{shortest_header, fewest, shortest}
use Rattle.shortest.specs.Steps.{atom_at, Stands, float_at}
use Rattle.shortest.proofs.Floats.{float_bounds}
use Rattle.shortest.proofs.Headers.{same_is, code_back, header_one, zero_last, short_last, tenth_last}

-- bytes of a part of bytes
pub take_bytes : (n : ℕ) (l : List ℕ) → Bytes l → Bytes (take n l)
take_bytes zero l B i = lit< tt
take_bytes (suc n) [] B i = lit< tt
take_bytes (suc n) (b ∷ l) B zero = B 0
take_bytes (suc n) (b ∷ l) B (suc i) = take_bytes n l (λ j. B (suc j)) i

pub drop_bytes : (n : ℕ) (l : List ℕ) → Bytes l → Bytes (drop n l)
drop_bytes n l B i = rw (get_or-drop n l i 0) (B (n + i))

-- what is behind the first of a part
none_of : (k n m : ℕ) → drop k (take {A = ℕ} m []) ≡ take {A = ℕ} n (drop k [])
none_of zero zero zero = refl
none_of zero zero (suc m) = refl
none_of zero (suc n) zero = refl
none_of zero (suc n) (suc m) = refl
none_of (suc k) zero zero = refl
none_of (suc k) zero (suc m) = refl
none_of (suc k) (suc n) zero = refl
none_of (suc k) (suc n) (suc m) = refl

drop-take : (k n : ℕ) (l : List ℕ) → drop k (take (k + n) l) ≡ take n (drop k l)
drop-take zero n l = ap (λ (m : ℕ). take m l) (zero-add n)
drop-take (suc k) n [] = none_of (suc k) n (suc k + n)
drop-take (suc k) n (b ∷ l) = ap (λ (m : ℕ). drop (suc k) (take m (b ∷ l))) (suc-add k n) ∙ drop-take k n l

-- a count of a header of one byte
pub small_count : (x : ℕ) → count_of (x % 16) ≡ x % 16 + 1
small_count x = mod-eq_of_lt (omega arith)

and_right : (t u : Bool) → t ≡ true → (t && u) ≡ u
and_right true u e = refl
and_right false u e = absurd (false≢true e)

-- ---- behind a longer header that is the writer's

-- no number: its argument is 16 at least
no_count : (arg n : ℕ) → 16 ≤ arg → arg < 2 ^ 64 → count_of arg ≡ n → 0 < n → n ≤ 16 → ⊥
no_count arg n h w e p m = omega arith

no_number : (kind : Kind) (arg : ℕ) (body : List ℕ) (count : ℕ) → 16 ≤ arg → arg < 2 ^ 64 → known kind arg ≡ true →
    fewest count (meant_by kind arg body) ≡ true
no_number K.Special arg body count h w k = refl
no_number K.Int arg body count h w k =
    let b = allowed_bounds (count_of arg) k in absurd (no_count arg (count_of arg) h w refl b.0 b.1)
no_number K.UInt arg body count h w k =
    let b = allowed_bounds (count_of arg) k in absurd (no_count arg (count_of arg) h w refl b.0 b.1)
no_number K.Float arg body count h w k =
    let b = float_bounds (count_of arg) k in absurd (no_count arg (count_of arg) h w refl b.0 b.1)
no_number K.Sequence arg body count h w k = refl
no_number K.Map arg body count h w k = refl
no_number K.Symbol arg body count h w k = refl
no_number K.Bytes arg body count h w k = refl

writer's_long : (atom : List ℕ) → header_length atom ≤ length atom → 2 ≤ header_length atom →
    shortest_header atom ≡ true → 16 ≤ header_argument atom
unfolding shortest_header
writer's_long atom fits long h = by (ltb (header_argument atom) 16) refl
  where
    same : take (header_length atom) atom ≡ header_bytes (header_kind atom) (header_argument atom)
    same = same_is (take (header_length atom) atom) (header_bytes (header_kind atom) (header_argument atom)) h

    by : (t : Bool) → ltb (header_argument atom) 16 ≡ t → 16 ≤ header_argument atom
    by true e =
        let one : length (take (header_length atom) atom) ≡ 1 =
        ap length (same ∙ bytes_one (header_kind atom) (header_argument atom) (ltb-true (header_argument atom) 16 e)) in
        let n = length-take-le (header_length atom) atom fits in
        absurd (omega arith)
    by false e = ltb-false (header_argument atom) 16 e

pub long_shortest : (atom : List ℕ) → IsAtom atom → 2 ≤ header_length atom → shortest atom ≡ shortest_header atom
unfolding shortest meant
long_shortest atom w long = by (shortest_header atom) refl
  where
    rest : Bool
    rest = fewest (count_of (header_argument atom)) (meant atom)

    by : (t : Bool) → shortest_header atom ≡ t → (shortest_header atom && rest) ≡ shortest_header atom
    by true e =
        let h = writer's_long atom w.its_header long e in
        rw e
        (no_number (header_kind atom) (header_argument atom) (drop (header_length atom) atom)
        (count_of (header_argument atom)) h (argument_word atom) w.its_kind)
    by false e = rw e refl

-- ---- in the source

module _ (s : List ℕ) (places : Places) (S : Stands s places) where
  its_size : length (atom_at s places) ≡ places.after.0 - places.first.0
  its_size =
      let a = S.rises in
      let b = S.inside in
      length-take-le (places.after.0 - places.first.0) (drop places.first.0 s)
      (omega (arith, length-drop places.first.0 s))

  its_byte : (i : ℕ) → i < header_length (atom_at s places) →
      get_or (atom_at s places) i 0 ≡ get_or s (places.first.0 + i) 0
  its_byte i h =
      let k = S.whole.its_header in
      get_or-take (places.after.0 - places.first.0) (drop places.first.0 s) i 0 (omega (arith, its_size))
      ∙ get_or-drop places.first.0 s i 0

  header-inside : places.body.0 ≤ length s
  header-inside =
      let a = S.whole.its_header in
      let b = S.header in
      let c = S.rises in
      let d = S.inside in
      omega (arith, its_size)

  -- a header of two bytes or more, by its last byte
  module _ (two : places.first.0 + 2 ≤ places.body.0) where
    pub last_inside : places.body.0 - 1 < length s
    last_inside = let h = header-inside in omega arith

    long : 2 ≤ header_length (atom_at s places)
    long = let b = S.header in omega arith

    last_byte : get_or (atom_at s places) (header_length (atom_at s places) - 1) 0 ≡ get_or s (places.body.0 - 1) 0
    last_byte =
        let b = S.header in
        let l = long in
        let e : places.first.0 + (header_length (atom_at s places) - 1) ≡ places.body.0 - 1 = omega arith in
        its_byte (header_length (atom_at s places) - 1) (omega arith) ∙ ap (λ (i : ℕ). get_or s i 0) e

    module _ (bytes : Fit (f_int w8) 0 s) where
      its_bytes : Bytes (atom_at s places)
      its_bytes =
          take_bytes (places.after.0 - places.first.0) (drop places.first.0 s)
          (drop_bytes places.first.0 s (λ i. (bytes i).fits))

      pub header_zero : get_or s (places.body.0 - 1) 0 ≡ 0 → false ≡ shortest_header (atom_at s places)
      header_zero z = sym (zero_last (atom_at s places) its_bytes S.whole.its_header long (last_byte ∙ z))

      module _ (some : get_or s (places.body.0 - 1) 0 ≡ 0 → ⊥) where
        last_some : 0 < get_or (atom_at s places) (header_length (atom_at s places) - 1) 0
        last_some = rw last_byte (positive (get_or s (places.body.0 - 1) 0) some)
          where
            positive : (n : ℕ) → (n ≡ 0 → ⊥) → 0 < n
            positive zero h = absurd (h refl)
            positive (suc n) h = omega arith

        pub header_ten : places.body.0 - 1 - places.first.0 ≡ 9 →
            ltb (get_or s (places.body.0 - 1) 0) 16 ≡ shortest_header (atom_at s places)
        header_ten e =
            let b = S.header in
            sym (tenth_last (atom_at s places) its_bytes S.whole.its_header long (omega arith) last_some
            ∙ ap (λ (x : ℕ). ltb x 16) last_byte)

        pub header_fewer : (places.body.0 - 1 - places.first.0 ≡ 9 → ⊥) → true ≡ shortest_header (atom_at s places)
        header_fewer other =
            let b = S.header in
            sym (short_last (atom_at s places) its_bytes S.whole.its_header long (λ ten. other (omega arith))
            last_some)

  -- which of the two it is
  pub one_byte : places.body.0 - places.first.0 ≡ 1 → places.body.0 ≡ places.first.0 + 1
  one_byte e = let b = S.header in omega arith

  pub more_bytes : (places.body.0 - places.first.0 ≡ 1 → ⊥) → places.first.0 + 2 ≤ places.body.0
  more_bytes other = by (ltb (header_length (atom_at s places)) 2) refl
    where
      by : (t : Bool) → ltb (header_length (atom_at s places)) 2 ≡ t → places.first.0 + 2 ≤ places.body.0
      by true e =
          let h = ltb-true (header_length (atom_at s places)) 2 e in
          let one = (length_bounds (atom_at s places)).0 in
          let b = S.header in
          absurd (other (omega arith))
      by false e =
          let h = ltb-false (header_length (atom_at s places)) 2 e in let b = S.header in omega arith

  pub long_judged : (r : Bool) → (places.body.0 - places.first.0 ≡ 1 → ⊥) →
      r ≡ shortest_header (atom_at s places) → r ≡ shortest (atom_at s places)
  long_judged r other e =
      e ∙ sym (long_shortest (atom_at s places) S.whole (long (more_bytes other)))

  -- a header of one byte: that byte says the kind and the argument, and the body is what follows
  module _ (one : places.body.0 ≡ places.first.0 + 1) where
    abbrev byte : ℕ
    byte = get_or s places.first.0 0

    short : header_length (atom_at s places) ≡ 1
    short = let b = S.header in omega arith

    pub first_inside : places.first.0 < length s
    first_inside = let h = header-inside in omega arith

    its_first : get_or (atom_at s places) 0 0 ≡ byte
    its_first =
        let h = short in
        let z : places.first.0 + 0 ≡ places.first.0 = omega arith in
        its_byte 0 (omega arith) ∙ ap (λ (i : ℕ). get_or s i 0) z

    said : (header_kind (atom_at s places) ≡ kind_known (kind_from (byte / 32)))
        × (header_argument (atom_at s places) ≡ byte % 16)
    said = of (atom_at s places) S.whole.its_header short its_first
      where
        of : (atom : List ℕ) → header_length atom ≤ length atom → header_length atom ≡ 1 → get_or atom 0 0 ≡ byte →
            (header_kind atom ≡ kind_known (kind_from (byte / 32))) × (header_argument atom ≡ byte % 16)
        of [] h n e = absurd (omega arith)
        of (b ∷ l) h n e = by (more_follow b) refl
          where
            by : (t : Bool) → more_follow b ≡ t →
                (header_kind (b ∷ l) ≡ kind_known (kind_from (byte / 32))) × (header_argument (b ∷ l) ≡ byte % 16)
            by false m = (
              ap (λ (x : ℕ). kind_known (kind_from (x / 32))) e,
              one_argument b l m ∙ ap (λ (x : ℕ). x % 16) e,
            )
            by true m =
                let k = more_length b l (eqb-true (b / 16 % 2) 1 m) in
                let some = count_least 8 l in
                absurd (omega arith)

    -- of a kind that the byte says
    module _ (kind : Kind) (k : kind_known (kind_from (byte / 32)) ≡ kind) where
      its_kind : header_kind (atom_at s places) ≡ kind
      its_kind = said.0 ∙ k

      its_known : known kind (byte % 16) ≡ true
      its_known =
          ap (λ (x : ℕ). known kind x) (sym said.1)
          ∙ ap (λ (x : Kind). known x (header_argument (atom_at s places))) (sym its_kind)
          ∙ S.whole.its_kind

      its_end : places.after.0 - places.first.0 ≡ 1 + body_length kind (byte % 16)
      its_end =
          sym its_size ∙ S.whole.its_length
          ∙ ap (λ (x : ℕ). x + body_length (header_kind (atom_at s places)) (header_argument (atom_at s places))) short
          ∙ ap (λ (x : Kind). 1 + body_length x (header_argument (atom_at s places))) its_kind
          ∙ ap (λ (x : ℕ). 1 + body_length kind x) said.1

      its_body : drop (header_length (atom_at s places)) (atom_at s places)
          ≡ take (body_length kind (byte % 16)) (drop places.body.0 s)
      its_body =
          let next : drop 1 (drop places.first.0 s) ≡ drop places.body.0 s =
          drop-drop 1 places.first.0 s ∙ ap (λ (i : ℕ). drop i s) (sym one) in
          ap (λ (i : ℕ). drop i (atom_at s places)) short
          ∙ ap (λ (n : ℕ). drop 1 (take n (drop places.first.0 s))) its_end
          ∙ drop-take 1 (body_length kind (byte % 16)) (drop places.first.0 s)
          ∙ ap (take (body_length kind (byte % 16))) next

      body_room : places.body.0 + body_length kind (byte % 16) ≤ length s
      body_room =
          let e = its_end in let a = S.rises in let b = S.inside in omega arith

      judged : Fit (f_int w8) 0 s → shortest (atom_at s places)
          ≡ fewest (count_of (byte % 16))
          (meant_by kind (byte % 16) (take (body_length kind (byte % 16)) (drop places.body.0 s)))
      unfolding shortest meant
      judged bytes =
          and_right (shortest_header (atom_at s places)) _
          (header_one (atom_at s places)
          (take_bytes (places.after.0 - places.first.0) (drop places.first.0 s)
          (drop_bytes places.first.0 s (λ i. (bytes i).fits))) S.whole.its_header short)
          ∙ rw (its_body, its_kind, said.1) refl

    -- its number's count is allowed and its bytes are there
    count_is : count_of (byte % 16) ≡ byte % 16 + 1
    count_is = small_count byte

    pub int_allowed : byte / 32 ≡ 1 → allowed_count (byte % 16 + 1) ≡ true
    int_allowed e =
        ap allowed_count (sym count_is) ∙ its_known K.Int (ap (λ (n : ℕ). kind_known (kind_from n)) e)

    pub uint_allowed : byte / 32 ≡ 2 → allowed_count (byte % 16 + 1) ≡ true
    uint_allowed e =
        ap allowed_count (sym count_is) ∙ its_known K.UInt (ap (λ (n : ℕ). kind_known (kind_from n)) e)

    pub float_allowed : byte / 32 ≡ 3 → allowed_float (byte % 16 + 1) ≡ true
    float_allowed e =
        ap allowed_float (sym count_is) ∙ its_known K.Float (ap (λ (n : ℕ). kind_known (kind_from n)) e)

    pub int_there : byte / 32 ≡ 1 → places.body.0 + (byte % 16 + 1) ≤ length s
    int_there e =
        let h = body_room K.Int (ap (λ (n : ℕ). kind_known (kind_from n)) e) in let c = count_is in omega arith

    pub uint_there : byte / 32 ≡ 2 → places.body.0 + (byte % 16 + 1) ≤ length s
    uint_there e =
        let h = body_room K.UInt (ap (λ (n : ℕ). kind_known (kind_from n)) e) in let c = count_is in omega arith

    pub float_there : byte / 32 ≡ 3 → places.body.0 + (byte % 16 + 1) ≤ length s
    float_there e =
        let h = body_room K.Float (ap (λ (n : ℕ). kind_known (kind_from n)) e) in let c = count_is in omega arith

    -- and how it is judged
    module _ (bytes : Fit (f_int w8) 0 s) (r : Bool) where
      pub int_judged : byte / 32 ≡ 1 →
          r ≡ eqb (byte % 16 + 1) (shortest_s (twos (byte % 16 + 1) (number_at (byte % 16 + 1) s places.body.0))) →
          r ≡ shortest (atom_at s places)
      unfolding number_at
      int_judged e q = q ∙ sym (judged K.Int (ap (λ (n : ℕ). kind_known (kind_from n)) e) bytes ∙ rw count_is refl)

      pub uint_judged : byte / 32 ≡ 2 →
          r ≡ eqb (byte % 16 + 1) (shortest_u (number_at (byte % 16 + 1) s places.body.0)) →
          r ≡ shortest (atom_at s places)
      unfolding number_at
      uint_judged e q = q ∙ sym (judged K.UInt (ap (λ (n : ℕ). kind_known (kind_from n)) e) bytes ∙ rw count_is refl)

      pub float_judged : byte / 32 ≡ 3 →
          r ≡ fewest (byte % 16 + 1) (float_at (byte % 16 + 1) s places.body.0) → r ≡ shortest (atom_at s places)
      unfolding number_at
      float_judged e q = q ∙ sym (judged K.Float (ap (λ (n : ℕ). kind_known (kind_from n)) e) bytes ∙ rw count_is refl)

    pub other_judged : Fit (f_int w8) 0 s → ((Unit {0} × (byte / 32 ≡ 1 → ⊥)) × (byte / 32 ≡ 2 → ⊥)) × (byte / 32 ≡ 3 → ⊥) →
        true ≡ shortest (atom_at s places)
    other_judged bytes n = of (kind_known (kind_from (byte / 32))) refl
      where
        code : kind_code (kind_known (kind_from (byte / 32))) ≡ byte / 32
        code = code_back (byte / 32) (omega (arith, (bytes places.first.0).fits))

        of : (kind : Kind) → kind_known (kind_from (byte / 32)) ≡ kind → true ≡ shortest (atom_at s places)
        of K.Special k = sym (judged K.Special k bytes)
        of K.Int k = absurd (n.0.0.1 (sym code ∙ ap kind_code k))
        of K.UInt k = absurd (n.0.1 (sym code ∙ ap kind_code k))
        of K.Float k = absurd (n.1 (sym code ∙ ap kind_code k))
        of K.Sequence k = sym (judged K.Sequence k bytes)
        of K.Map k = sym (judged K.Map k bytes)
        of K.Symbol k = sym (judged K.Symbol k bytes)
        of K.Bytes k = sym (judged K.Bytes k bytes)

pub ruleset body_ends = (
  first_inside,
  int_allowed,
  uint_allowed,
  float_allowed,
  int_there,
  uint_there,
  float_there,
  int_judged,
  uint_judged,
  float_judged,
  other_judged,
  rules,
)

pub ruleset header_ends = (last_inside, header_zero, header_ten, header_fewer, rules)

pub ruleset atom_ends = (one_byte, more_bytes, long_judged, rules)
