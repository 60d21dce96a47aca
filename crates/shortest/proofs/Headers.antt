-- WHEN A HEADER IS THE WRITER'S, by its last byte: a header of one byte is; a longer one is if its last byte is not 0
-- and, being the tenth, has none of the bits that are dropped. Over the number of later bytes, by induction.
use mathlib.Core.Path.{◌≡◌, refl, ◌∙◌, sym, ap, subst}
use mathlib.Core.Bool.{Bool, true, false, false≢true}
use mathlib.Core.List.{List, [], ◌∷◌}
use Prim.Native.Nat.{ℕ, zero, suc, ◌+◌, ◌-◌, ◌*◌, ◌/◌, ◌%◌, ◌^◌, ◌≤◌, ◌<◌}
use native.Mathlib.Omega.{arith}
use native.Mathlib.Nat.{pow-suc, pow-succ', div-div-eq-div-mul, mod-eq_of_lt, div-one, mul_comm, mul_assoc}
use native.Mathlib.Nat.{pow-le-pow_right}
use lib.Dec.{ltb, eqb, lit<}
use lib.ListN.{length, take, get_or}
use lib.Seq.{get_or-take, length-take-le}
use borrow.Author.Tests.{ltb-true, ltb-false, eqb-true, eqb-false, eq-eqb}
use Rattle.types.specs.Kinds.{kind_code, kind_from, kind_known}
use Rattle.header.specs.Header.{later_count, later_value, later_bytes, header_bytes, header_kind, header_argument, header_length, more_follow, after_first}
use Rattle.header.proofs.Later.{count_more, count_last, value_more, value_last}
use Rattle.header.proofs.Groups.{last_group, group, more}
use Rattle.header.proofs.Answers.{bytes_one, bytes_more, one_length, one_argument, more_length, more_argument}
use Rattle.header.proofs.Fewest.{value_low, count_least, argument_word, length_bounds}
use Rattle.shortest.specs.Meanings.{Bytes}
use Rattle.shortest.specs.Forms.{same_bytes, shortest_header}

-- ---- "byte for byte"

pub same_is : (a b : List ℕ) → same_bytes a b ≡ true → a ≡ b
unfolding same_bytes
same_is [] [] h = refl
same_is [] (c ∷ those) h = absurd (false≢true h)
same_is (b ∷ these) [] h = absurd (false≢true h)
same_is (b ∷ these) (c ∷ those) h = by (eqb b c) refl (same_is these those)
  where
    by : (t : Bool) → eqb b c ≡ t → (same_bytes these those ≡ true → these ≡ those) → b ∷ these ≡ c ∷ those
    by true e later =
        let l : these ≡ those = later (rw e at h) in let p : b ≡ c = eqb-true b c e in cc
    by false e later = let n : false ≡ true = rw e at h in absurd (false≢true n)

same_self : (a : List ℕ) → same_bytes a a ≡ true
unfolding same_bytes
same_self [] = refl
same_self (b ∷ these) = rw (eq-eqb b b refl, same_self these) refl

pub is_same : (a b : List ℕ) → a ≡ b → same_bytes a b ≡ true
is_same a b e = ap (same_bytes a) (sym e) ∙ same_self a

not_same : (a b : List ℕ) → (a ≡ b → ⊥) → same_bytes a b ≡ false
not_same a b n = by (same_bytes a b) refl
  where
    by : (t : Bool) → same_bytes a b ≡ t → same_bytes a b ≡ false
    by true e = absurd (n (same_is a b e))
    by false e = e

-- ---- the later bytes

-- whose last is not 0 and ends them: the writer's, of their number, which is not 0
abbrev Good : ℕ → List ℕ → ℕ → Type 0
Good k l n =
    later_count k l ≡ suc n → suc n ≤ length l → 0 < get_or l n 0 → get_or l n 0 < 128 →
    (later_bytes k (later_value k l) ≡ take (suc n) l) × (1 ≤ later_value k l)

good_last : (k n b : ℕ) (l : List ℕ) → b < 128 → Good (suc k) (b ∷ l) n
good_last k n b l h c fits some low =
    let one = count_last k b l h in
    let z : n ≡ 0 = omega arith in
    let v = value_last k b l h ∙ mod-eq_of_lt h in
    let s : 0 < b = rw z at some in
    (rw (v, z) (last_group k b h), rw v (omega arith))

good_more : (k n b : ℕ) (l : List ℕ) → 128 ≤ b → b < 256 → ((m : ℕ) → Good k l m) → Good (suc k) (b ∷ l) n
good_more k zero b l h small ih c fits some low = absurd (omega arith)
good_more k (suc n) b l h small ih c fits some low =
    let many = count_more k b l h in
    let i = ih n (omega arith) (omega arith) some low in
    let one = i.1 in
    let v = value_more k b l h in
    let big : 128 ≤ b % 128 + 128 * later_value k l = omega arith in
    let g = group k (b % 128 + 128 * later_value k l) big in
    let first : (b % 128 + 128 * later_value k l) % 128 + 128 ≡ b = omega arith in
    let rest : (b % 128 + 128 * later_value k l) / 128 ≡ later_value k l = omega arith in
    (rw v (g ∙ rw (first, rest) (ap (λ (y : List ℕ). b ∷ y) i.0)), rw v (omega arith))

no_later : (l : List ℕ) → later_count 0 l ≡ 0
unfolding later_count
no_later l = refl

later_good : (k : ℕ) (l : List ℕ) → Bytes l → (n : ℕ) → Good k l n
later_good zero l B n = λ c. absurd (omega (arith, no_later l))
later_good (suc k) [] B n = λ c fits. absurd (omega arith)
later_good (suc k) (b ∷ l) B n = by (ltb b 128) refl (later_good k l (λ i. B (suc i)))
  where
    by : (t : Bool) → ltb b 128 ≡ t → ((m : ℕ) → Good k l m) → Good (suc k) (b ∷ l) n
    by true e ih = good_last k n b l (ltb-true b 128 e)
    by false e ih = good_more k n b l (ltb-false b 128 e) (B 0) ih

-- where fewer are taken than may follow, the last is below 128
later_ends : (k n : ℕ) (l : List ℕ) → later_count k l ≡ suc n → suc n < k → get_or l n 0 < 128
later_ends zero n l c h = absurd (omega (arith, no_later l))
later_ends (suc k) n [] c h = omega arith
later_ends (suc k) n (b ∷ l) c h = by (ltb b 128) refl n c h (later_ends k)
  where
    by : (t : Bool) → ltb b 128 ≡ t → (n : ℕ) → later_count (suc k) (b ∷ l) ≡ suc n → suc n < suc k →
        ((m : ℕ) (r : List ℕ) → later_count k r ≡ suc m → suc m < k → get_or r m 0 < 128) → get_or (b ∷ l) n 0 < 128
    by true e n c h ih =
        let low = ltb-true b 128 e in
        let z : n ≡ 0 = omega (arith, count_last k b l low) in
        rw z low
    by false e zero c h ih = absurd (some k (omega (arith, count_more k b l (ltb-false b 128 e))) (omega arith))
      where
        some : (k : ℕ) → later_count k l ≡ 0 → 0 < k → ⊥
        some zero q p = omega arith
        some (suc j) q p = let one = count_least j l in omega arith
    by false e (suc n) c h ih = ih n l (omega (arith, count_more k b l (ltb-false b 128 e))) (omega arith)

zero_value : (l : List ℕ) → later_value 0 l ≡ 0
unfolding later_value
zero_value l = refl

no_value : (k : ℕ) → later_value (suc k) [] ≡ 0
unfolding later_value
no_value k = refl

power_pos : (k : ℕ) → 0 < 128 ^ k
power_pos zero = lit< tt
power_pos (suc k) = rw (pow-suc 128 k) (omega (arith, power_pos k))

-- where all are taken that may follow, the last has the highest bits of their number
scaled : (p x v : ℕ) → v < p * suc x → 128 * v + 127 < p * 128 * suc x
scaled p x v h =
    let e : p * 128 * suc x ≡ 128 * (p * suc x) =
    ap (λ (q : ℕ). q * suc x) (mul_comm p 128) ∙ mul_assoc 128 p (suc x) in
    rw e (omega arith)

later_high : (k : ℕ) (l : List ℕ) → later_count (suc k) l ≡ suc k → later_value (suc k) l < 128 ^ k * suc (get_or l k 0)
later_high k [] c = rw (no_value k) (omega (arith, power_pos k))
later_high k (b ∷ l) c = by (ltb b 128) refl k c (λ j. later_high j l)
  where
    by : (t : Bool) → ltb b 128 ≡ t → (k : ℕ) → later_count (suc k) (b ∷ l) ≡ suc k →
        ((j : ℕ) → later_count (suc j) l ≡ suc j → later_value (suc j) l < 128 ^ j * suc (get_or l j 0)) →
        later_value (suc k) (b ∷ l) < 128 ^ k * suc (get_or (b ∷ l) k 0)
    by true e k c ih =
        let low = ltb-true b 128 e in
        let z : k ≡ 0 = omega (arith, count_last k b l low) in
        rw (value_last k b l low, z) (omega arith)
    by false e zero c ih =
        rw (value_more 0 b l (ltb-false b 128 e), zero_value l) (omega arith)
    by false e (suc k) c ih =
        let h = ltb-false b 128 e in
        let i = ih k (omega (arith, count_more (suc k) b l h)) in
        let m = scaled (128 ^ k) (get_or l k 0) (later_value (suc k) l) i in
        rw (value_more (suc k) b l h, pow-suc 128 k) (omega arith)

-- ---- what the writer gives

-- its last byte is not 0, and below 128
abbrev Ends : ℕ → ℕ → ℕ → Type 0
Ends k v n =
    1 ≤ v → v < 128 ^ k → length (later_bytes k v) ≡ suc n →
    (0 < get_or (later_bytes k v) n 0) × (get_or (later_bytes k v) n 0 < 128)

written_one : (k v n : ℕ) → v < 128 → Ends (suc k) v n
written_one k v n h some fits c =
    let g = last_group k v h in
    let z : n ≡ 0 = omega (arith, ap length g) in
    rw (g, z) (some, h)

-- a number that is not 0 has a byte
empty : (k v : ℕ) → 1 ≤ v → v < 128 ^ k → length (later_bytes k v) ≡ 0 → ⊥
empty zero v some fits c = omega arith
empty (suc k) v some fits c = by (ltb v 128) refl
  where
    by : (t : Bool) → ltb v 128 ≡ t → ⊥
    by true e = omega (arith, ap length (last_group k v (ltb-true v 128 e)))
    by false e = omega (arith, ap length (group k v (ltb-false v 128 e)))

written_more : (k v n : ℕ) → 128 ≤ v → ((m : ℕ) → Ends k (v / 128) m) → Ends (suc k) v n
written_more k v zero h ih some fits c =
    let g = group k v h in
    let z : length (later_bytes k (v / 128)) ≡ 0 = omega (arith, ap length g) in
    absurd (empty k (v / 128) (omega arith) (more k v fits) z)
written_more k v (suc n) h ih some fits c =
    let g = group k v h in
    rw g (ih n (omega arith) (more k v fits) (omega (arith, ap length g)))

written_last : (k v n : ℕ) → Ends k v n
written_last zero v n = λ some fits. absurd (omega arith)
written_last (suc k) v n = by (ltb v 128) refl (written_last k (v / 128))
  where
    by : (t : Bool) → ltb v 128 ≡ t → ((m : ℕ) → Ends k (v / 128) m) → Ends (suc k) v n
    by true e ih = written_one k v n (ltb-true v 128 e)
    by false e ih = written_more k v n (ltb-false v 128 e) ih

-- and where all that may follow are there, it has the number's highest bits
written_high : (k v : ℕ) → v < 128 ^ suc k → length (later_bytes (suc k) v) ≡ suc k →
    get_or (later_bytes (suc k) v) k 0 ≡ v / 128 ^ k
written_high zero v fits n =
    let h : v < 128 = fits in rw (last_group 0 v h) (sym (div-one v))
written_high (suc k) v fits n = by (ltb v 128) refl (written_high k (v / 128) (more (suc k) v fits))
  where
    by : (t : Bool) → ltb v 128 ≡ t →
        (length (later_bytes (suc k) (v / 128)) ≡ suc k →
        get_or (later_bytes (suc k) (v / 128)) k 0 ≡ v / 128 / 128 ^ k) →
        get_or (later_bytes (suc (suc k)) v) (suc k) 0 ≡ v / 128 ^ suc k
    by true e ih =
        let m : 1 ≡ suc (suc k) = rw (last_group (suc k) v (ltb-true v 128 e)) at n in absurd (omega arith)
    by false e ih =
        let g = group (suc k) v (ltb-false v 128 e) in
        let m : suc (length (later_bytes (suc k) (v / 128))) ≡ suc (suc k) = rw g at n in
        rw g (ih (omega arith) ∙ div-div-eq-div-mul v 128 (128 ^ k) ∙ ap (λ (x : ℕ). v / x) (sym (pow-succ' 128 k)))

-- ---- a header of two bytes or more

-- its first byte is the writer's, whatever the kind
pub code_back : (n : ℕ) → n < 8 → kind_code (kind_known (kind_from n)) ≡ n
code_back zero h = refl
code_back (suc zero) h = refl
code_back (suc (suc zero)) h = refl
code_back (suc (suc (suc zero))) h = refl
code_back (suc (suc (suc (suc zero)))) h = refl
code_back (suc (suc (suc (suc (suc zero))))) h = refl
code_back (suc (suc (suc (suc (suc (suc zero)))))) h = refl
code_back (suc (suc (suc (suc (suc (suc (suc zero))))))) h = refl
code_back (suc (suc (suc (suc (suc (suc (suc (suc n)))))))) h = absurd (omega arith)

sixteenth : (a b v : ℕ) → a ≡ b % 16 + 16 * v → a / 16 ≡ v
sixteenth a b v e = omega arith

nibble : (a b v : ℕ) → a ≡ b % 16 + 16 * v → a % 16 ≡ b % 16
nibble a b v e = omega arith

at_least : (a b v : ℕ) → a ≡ b % 16 + 16 * v → 1 ≤ v → 16 ≤ a
at_least a b v e h = omega arith

first_byte_lem : (b c x : ℕ) → c ≡ b / 32 → b / 16 % 2 ≡ 1 → x ≡ b % 16 → c * 32 + 16 + x ≡ b
first_byte_lem b c x e f g = omega arith

code_below : (b : ℕ) → b < 256 → b / 32 < 8
code_below b h = omega arith

top_word : (b v : ℕ) → v < 2 ^ 60 → (b % 16 + 16 * v) % 2 ^ 64 ≡ b % 16 + 16 * v
top_word b v h = mod-eq_of_lt (omega arith)

module _ (b : ℕ) (l : List ℕ) (B : Bytes (b ∷ l)) (long : b / 16 % 2 ≡ 1) (fits : header_length (b ∷ l) ≤ length (b ∷ l))
    (n : ℕ) (count : later_count 9 l ≡ suc n) where
  abbrev arg : ℕ
  arg = header_argument (b ∷ l)

  arg_is : arg ≡ (b % 16 + 16 * later_value 9 l) % 2 ^ 64
  arg_is = more_argument b l long

  its_length : header_length (b ∷ l) ≡ suc (suc n)
  its_length = more_length b l long ∙ ap suc count

  there : suc n ≤ length l
  there = let e = its_length in omega arith

  -- nothing is dropped: what the later bytes hold, from 1 on, is written as they are
  module _ (low : later_value 9 l < 2 ^ 60) (some : 0 < get_or l n 0) (ends : get_or l n 0 < 128) where
    g : (later_bytes 9 (later_value 9 l) ≡ take (suc n) l) × (1 ≤ later_value 9 l)
    g = later_good 9 l (λ i. B (suc i)) n count there some ends

    whole_arg : arg ≡ b % 16 + 16 * later_value 9 l
    whole_arg = arg_is ∙ top_word b (later_value 9 l) low

    pub writer's : shortest_header (b ∷ l) ≡ true
    unfolding shortest_header
    writer's =
        let v = later_value 9 l in
        let rest = sixteenth arg b v whole_arg in
        let first =
        first_byte_lem b (kind_code (header_kind (b ∷ l))) (arg % 16) (code_back (b / 32) (code_below b (B 0))) long
        (nibble arg b v whole_arg) in
        let w : header_bytes (header_kind (b ∷ l)) arg ≡ b ∷ take (suc n) l =
        bytes_more (header_kind (b ∷ l)) arg (at_least arg b v whole_arg g.1)
        ∙ rw (first, rest) (ap (λ (y : List ℕ). b ∷ y) g.0) in
        is_same (take (header_length (b ∷ l)) (b ∷ l)) (header_bytes (header_kind (b ∷ l)) arg)
        (ap (λ (k : ℕ). take k (b ∷ l)) its_length ∙ sym w)

  -- what the writer gives has a last byte from 1 to 127, and below 16 if it is the tenth
  module _ (same : take (header_length (b ∷ l)) (b ∷ l) ≡ header_bytes (header_kind (b ∷ l)) arg) where
    taken : take (suc (suc n)) (b ∷ l) ≡ header_bytes (header_kind (b ∷ l)) arg
    taken = ap (λ (k : ℕ). take k (b ∷ l)) (sym its_length) ∙ same

    long_arg : (t : Bool) → ltb arg 16 ≡ t → 16 ≤ arg
    long_arg true e =
        let w = taken ∙ bytes_one (header_kind (b ∷ l)) arg (ltb-true arg 16 e) in
        let k : suc (length (take (suc n) l)) ≡ 1 = ap length w in
        let j = length-take-le (suc n) l there in
        absurd (omega arith)
    long_arg false e = ltb-false arg 16 e

    sixteen : 16 ≤ arg
    sixteen = long_arg (ltb arg 16) refl

    tail : take (suc n) l ≡ later_bytes 9 (arg / 16)
    tail = let w = taken ∙ bytes_more (header_kind (b ∷ l)) arg sixteen in ap after_first w

    tail_length : length (later_bytes 9 (arg / 16)) ≡ suc n
    tail_length = ap length (sym tail) ∙ length-take-le (suc n) l there

    tail_last : get_or (later_bytes 9 (arg / 16)) n 0 ≡ get_or l n 0
    tail_last = ap (λ (y : List ℕ). get_or y n 0) (sym tail) ∙ get_or-take (suc n) l n 0 (omega arith)

    word : arg < 2 ^ 64
    word = argument_word (b ∷ l)

    pub last_some : 0 < get_or l n 0
    last_some =
        let h = sixteen in
        let w = word in
        rw (← tail_last) (written_last 9 (arg / 16) n (omega arith) (omega arith) tail_length).0

    pub tenth_low : n ≡ 8 → get_or l 8 0 < 16
    tenth_low e =
        let w = word in
        let h : get_or (later_bytes 9 (arg / 16)) 8 0 ≡ arg / 16 / 128 ^ 8 =
        written_high 8 (arg / 16) (omega arith) (tail_length ∙ ap suc e) in
        let k : get_or (later_bytes 9 (arg / 16)) 8 0 ≡ get_or l 8 0 =
        ap (λ (i : ℕ). get_or (later_bytes 9 (arg / 16)) i 0) (sym e) ∙ tail_last ∙ ap (λ (i : ℕ). get_or l i 0) e in
        omega arith

-- its last byte decides
module _ (b : ℕ) (l : List ℕ) (B : Bytes (b ∷ l)) (long : b / 16 % 2 ≡ 1) (fits : header_length (b ∷ l) ≤ length (b ∷ l))
    (n : ℕ) (count : later_count 9 l ≡ suc n) where
  refused_by : (take (header_length (b ∷ l)) (b ∷ l) ≡ header_bytes (header_kind (b ∷ l)) (header_argument (b ∷ l)) → ⊥) →
      shortest_header (b ∷ l) ≡ false
  unfolding shortest_header
  refused_by differ =
      not_same (take (header_length (b ∷ l)) (b ∷ l)) (header_bytes (header_kind (b ∷ l)) (header_argument (b ∷ l))) differ

  last_zero : get_or l n 0 ≡ 0 → shortest_header (b ∷ l) ≡ false
  last_zero z = refused_by (λ same. let s = last_some b l B long fits n count same in omega arith)

  last_short : suc n < 9 → 0 < get_or l n 0 → shortest_header (b ∷ l) ≡ true
  last_short few some =
      let v = value_low 9 l in
      let p : 128 ^ later_count 9 l ≤ 128 ^ 8 =
      pow-le-pow_right {n = 128} (lit< tt) {i = later_count 9 l} {j = 8} (omega arith) in
      writer's b l B long fits n count (low_enough (later_value 9 l) (128 ^ later_count 9 l) v p) some
      (later_ends 9 n l count few)
    where
      low_enough : (v p : ℕ) → v < p → p ≤ 128 ^ 8 → v < 2 ^ 60
      low_enough v p h k = omega arith

  last_tenth : n ≡ 8 → 0 < get_or l n 0 → shortest_header (b ∷ l) ≡ ltb (get_or l n 0) 16
  last_tenth e some = by (ltb (get_or l n 0) 16) refl
    where
      all : later_count 9 l ≡ 9
      all = count ∙ ap suc e

      here : get_or l n 0 ≡ get_or l 8 0
      here = ap (λ (i : ℕ). get_or l i 0) e

      low_enough : (v x : ℕ) → v < 128 ^ 8 * suc x → x < 16 → v < 2 ^ 60
      low_enough v x h k = omega arith

      by : (t : Bool) → ltb (get_or l n 0) 16 ≡ t → shortest_header (b ∷ l) ≡ ltb (get_or l n 0) 16
      by true k =
          let x = ltb-true (get_or l n 0) 16 k in
          let y : get_or l 8 0 < 16 = rw here at x in
          writer's b l B long fits n count
          (low_enough (later_value 9 l) (get_or l 8 0) (later_high 8 l all) y) some (omega arith)
          ∙ sym k
      by false k =
          let x = ltb-false (get_or l n 0) 16 k in
          refused_by (λ same. let s = tenth_low b l B long fits n count same e in omega (arith, here)) ∙ sym k

-- ---- by the last byte, of any bytes that a header is whole in

-- a header of one byte
pub one_byte : (b : ℕ) (l : List ℕ) → b < 256 → more_follow b ≡ false → shortest_header (b ∷ l) ≡ true
unfolding shortest_header
one_byte b l small m =
    let z : b / 16 % 2 ≡ 0 = even_bit (b / 16 % 2) (omega arith) (not_one m) in
    let code = code_back (b / 32) (omega arith) in
    let n = one_length b l m in
    let a = one_argument b l m in
    let first : kind_code (header_kind (b ∷ l)) * 32 + b % 16 ≡ b = omega arith in
    rw (n, a)
    (is_same (take 1 (b ∷ l)) (header_bytes (header_kind (b ∷ l)) (b % 16))
    (sym (bytes_one (header_kind (b ∷ l)) (b % 16) (omega arith) ∙ ap (λ (x : ℕ). x ∷ []) first)))
  where
    not_one : more_follow b ≡ false → b / 16 % 2 ≡ 1 → ⊥
    not_one m e = false≢true (sym m ∙ eq-eqb (b / 16 % 2) 1 e)

    even_bit : (x : ℕ) → x < 2 → (x ≡ 1 → ⊥) → x ≡ 0
    even_bit zero h n = refl
    even_bit (suc zero) h n = absurd (n refl)
    even_bit (suc (suc x)) h n = absurd (omega arith)

module _ (l : List ℕ) (B : Bytes l) (fits : header_length l ≤ length l) where
  -- the first byte says whether it is longer
  pub header_one : header_length l ≡ 1 → shortest_header l ≡ true
  header_one e = of l B fits e
    where
      of : (l : List ℕ) → Bytes l → header_length l ≤ length l → header_length l ≡ 1 → shortest_header l ≡ true
      of [] B fits e = absurd (omega arith)
      of (b ∷ l) B fits e = by (more_follow b) refl
        where
          by : (t : Bool) → more_follow b ≡ t → shortest_header (b ∷ l) ≡ true
          by false m = one_byte b l (B 0) m
          by true m =
              let one = count_least 8 l in
              let n = more_length b l (eqb-true (b / 16 % 2) 1 m) in
              absurd (omega arith)

  -- a longer one: its later bytes, one at least
  pub record Longer : Type 0 where
    pub first : ℕ
    pub later : List ℕ
    pub fewer : ℕ
    pub split : l ≡ first ∷ later
    pub says : first / 16 % 2 ≡ 1
    pub count : later_count 9 later ≡ suc fewer

  pub longer : 2 ≤ header_length l → Longer
  longer two = of l refl
    where
      some : (k : ℕ) → 1 ≤ k → (j : ℕ) × (k ≡ suc j)
      some zero h = absurd (omega arith)
      some (suc j) h = (j, refl)

      of : (x : List ℕ) → l ≡ x → Longer
      of [] e = let f : header_length [] ≤ 0 = rw e at fits in absurd (omega (arith, (length_bounds []).0))
      of (b ∷ x) e = by (more_follow b) refl
        where
          by : (t : Bool) → more_follow b ≡ t → Longer
          by false m =
              let n : header_length l ≡ 1 = ap header_length e ∙ one_length b x m in absurd (omega arith)
          by true m =
              let c = some (later_count 9 x) (count_least 8 x) in
              record {
                first = b;
                later = x;
                fewer = c.0;
                split = e;
                says = eqb-true (b / 16 % 2) 1 m;
                count = c.1;
              }

  -- BY ITS LAST BYTE: 0 is not the writer's; another is, but of a tenth only below 16
  module _ (two : 2 ≤ header_length l) where
    L : Longer
    L = longer two

    B' : Bytes (L.first ∷ L.later)
    B' = subst Bytes L.split B

    fits' : header_length (L.first ∷ L.later) ≤ length (L.first ∷ L.later)
    fits' = subst (λ (x : List ℕ). header_length x ≤ length x) L.split fits

    long_length : header_length l ≡ suc (suc L.fewer)
    long_length = ap header_length L.split ∙ more_length L.first L.later L.says ∙ ap suc L.count

    last_there : get_or l (header_length l - 1) 0 ≡ get_or L.later L.fewer 0
    last_there =
        ap (λ (n : ℕ). get_or l n 0) (before_last (header_length l) L.fewer long_length)
        ∙ ap (λ (x : List ℕ). get_or x (suc L.fewer) 0) L.split
      where
        before_last : (h n : ℕ) → h ≡ suc (suc n) → h - 1 ≡ suc n
        before_last h n e = omega arith

    same_header : {t : Bool} → shortest_header (L.first ∷ L.later) ≡ t → shortest_header l ≡ t
    same_header e = ap shortest_header L.split ∙ e

    pub zero_last : get_or l (header_length l - 1) 0 ≡ 0 → shortest_header l ≡ false
    zero_last z =
        same_header (last_zero L.first L.later B' L.says fits' L.fewer L.count (sym last_there ∙ z))

    pub short_last : (header_length l ≡ 10 → ⊥) → 0 < get_or l (header_length l - 1) 0 → shortest_header l ≡ true
    short_last other some =
        same_header (last_short L.first L.later B' L.says fits' L.fewer L.count
        (few (header_length l) L.fewer long_length (length_bounds l).1 other) (rw last_there at some))
      where
        few : (h n : ℕ) → h ≡ suc (suc n) → h ≤ 10 → (h ≡ 10 → ⊥) → suc n < 9
        few h n e m other = by (eqb h 10) refl
          where
            by : (t : Bool) → eqb h 10 ≡ t → suc n < 9
            by true k = absurd (other (eqb-true h 10 k))
            by false k = omega (arith, eqb-false h 10 k)

    pub tenth_last : header_length l ≡ 10 → 0 < get_or l (header_length l - 1) 0 →
        shortest_header l ≡ ltb (get_or l (header_length l - 1) 0) 16
    tenth_last ten some =
        same_header (last_tenth L.first L.later B' L.says fits' L.fewer L.count
        (omega (arith, long_length)) (rw last_there at some))
        ∙ ap (λ (x : ℕ). ltb x 16) (sym last_there)
