-- The writer uses the fewest bytes that any header with that kind and argument has; no header takes more than ten, and
-- no argument more than 64 bits.
use mathlib.Core.Path.{◌≡◌, refl}
use mathlib.Core.Bool.{Bool, true, false}
use mathlib.Core.List.{List, [], ◌∷◌}
use Prim.Native.Nat.{ℕ, zero, suc, ◌+◌, ◌*◌, ◌/◌, ◌%◌, ◌^◌, ◌≤◌, ◌<◌}
use native.Mathlib.Nat.{pow-suc, mod-le, mod-lt}
use native.Mathlib.Omega.{arith}
use lib.Dec.{ltb, lit<}
use lib.ListN.{length}
use borrow.Author.Tests.{ltb-true, ltb-false}
use Rattle.types.specs.declared.Kind.{Kind}
use Rattle.header.specs.Header.{later_count, later_value, later_bytes, header_bytes, header_argument, header_length, first_byte, after_first, more_follow, argument_from}
use Rattle.header.proofs.Later.{count_more, count_last, value_more, value_last}
use Rattle.header.proofs.Groups.{last_group, group}
use Rattle.header.proofs.Answers.{bytes_one, bytes_more}

-- n later bytes hold a number below 128 ^ n
value_low_at : (k b : ℕ) (l : List ℕ) → later_value k l < 128 ^ later_count k l → (t : Bool) → ltb b 128 ≡ t →
    later_value (suc k) (b ∷ l) < 128 ^ later_count (suc k) (b ∷ l)
value_low_at k b l ih true e = let h = ltb-true b 128 e in rw (value_last k b l h, count_last k b l h) (omega arith)
value_low_at k b l ih false e =
    let h = ltb-false b 128 e in
    rw (value_more k b l h, count_more k b l h, pow-suc 128 (later_count k l)) (omega arith)

pub value_low : (k : ℕ) (l : List ℕ) → later_value k l < 128 ^ later_count k l
unfolding later_value later_count
value_low zero l = lit< tt
value_low (suc k) [] = lit< tt
value_low (suc k) (b ∷ l) = value_low_at k b l (value_low k l) (ltb b 128) refl

-- a number below 128 ^ n is written in at most n later bytes
few_at : (k v n : ℕ) → ((w : ℕ) → w < 128 ^ n → length (later_bytes k w) ≤ n) → v < 128 ^ suc n → (t : Bool) →
    ltb v 128 ≡ t → length (later_bytes (suc k) v) ≤ suc n
few_at k v n ih l true e = rw (last_group k v (ltb-true v 128 e)) (omega arith)
few_at k v n ih l false e =
    let z : v < 128 ^ n * 128 = rw (pow-suc 128 n) at l in
    let i = ih (v / 128) (omega arith) in
    rw (group k v (ltb-false v 128 e)) (omega arith)

pub few : (n k v : ℕ) → v < 128 ^ suc n → length (later_bytes k v) ≤ suc n
unfolding later_bytes
few n zero v l = omega arith
few zero (suc k) v l = let z : v < 128 = l in rw (last_group k v z) (omega arith)
few (suc n) (suc k) v l = few_at k v (suc n) (λ w h. few n k w h) l (ltb v 128) refl

-- at most `left` later bytes are taken, and at least one where one may follow
most_at : (k b : ℕ) (l : List ℕ) → later_count k l ≤ k → (t : Bool) → ltb b 128 ≡ t → later_count (suc k) (b ∷ l) ≤ suc k
most_at k b l ih true e = rw (count_last k b l (ltb-true b 128 e)) (omega arith)
most_at k b l ih false e = rw (count_more k b l (ltb-false b 128 e)) (omega arith)

pub count_most : (k : ℕ) (l : List ℕ) → later_count k l ≤ k
unfolding later_count
count_most zero l = omega arith
count_most (suc k) [] = omega arith
count_most (suc k) (b ∷ l) = most_at k b l (count_most k l) (ltb b 128) refl

least_at : (k b : ℕ) (l : List ℕ) (t : Bool) → ltb b 128 ≡ t → 1 ≤ later_count (suc k) (b ∷ l)
least_at k b l true e = rw (count_last k b l (ltb-true b 128 e)) (omega arith)
least_at k b l false e = rw (count_more k b l (ltb-false b 128 e)) (omega arith)

pub count_least : (k : ℕ) (l : List ℕ) → 1 ≤ later_count (suc k) l
unfolding later_count
count_least k [] = omega arith
count_least k (b ∷ l) = least_at k b l (ltb b 128) refl

-- "The tenth byte always ends it": a header takes one byte at least, and ten at most
length_at : (l : List ℕ) (t : Bool) → more_follow (first_byte l) ≡ t → (1 ≤ header_length l) × (header_length l ≤ 10)
unfolding header_length
length_at l true e = rw e (omega arith, omega (arith, count_most 9 (after_first l)))
length_at l false e = rw e (omega arith, omega arith)

pub length_bounds : (l : List ℕ) → (1 ≤ header_length l) × (header_length l ≤ 10)
length_bounds l = length_at l (more_follow (first_byte l)) refl

-- "bits above 64 are dropped"
pub argument_word : (l : List ℕ) → header_argument l < 2 ^ 64
unfolding header_argument
argument_word l = mod-lt _ {m = 2 ^ 64} (lit< tt)

-- THE FEWEST BYTES: whatever bytes a header has, the writer takes no more for its kind and argument
written_at : (kind : Kind) (arg n : ℕ) → 1 ≤ n → (16 ≤ arg → length (later_bytes 9 (arg / 16)) ≤ n) → (t : Bool) →
    ltb arg 16 ≡ t → length (header_bytes kind arg) ≤ suc n
written_at kind arg n p f true e = rw (bytes_one kind arg (ltb-true arg 16 e)) (omega arith)
written_at kind arg n p f false e = let h = ltb-false arg 16 e in let g = f h in
    rw (bytes_more kind arg h) (omega arith)

long_low : (x v n : ℕ) → v < 128 ^ n → (x % 16 + 16 * v) % 2 ^ 64 / 16 < 128 ^ n
long_low x v n h = let m : (x % 16 + 16 * v) % 2 ^ 64 ≤ x % 16 + 16 * v = mod-le (x % 16 + 16 * v) (2 ^ 64) in
    omega arith

fewest_at : (kind : Kind) (l : List ℕ) (t : Bool) → more_follow (first_byte l) ≡ t →
    length (header_bytes kind (header_argument l)) ≤ header_length l
unfolding header_argument header_length
fewest_at kind l true e =
    let r : List ℕ = after_first l in
    let arg : ℕ = argument_from (first_byte l % 16) (later_value 9 r) in
    let n = count_least 8 r in
    let low : arg / 16 < 128 ^ later_count 9 r =
    long_low (first_byte l) (later_value 9 r) (later_count 9 r) (value_low 9 r) in
    rw e (written_at kind arg (later_count 9 r) n (λ h. few_least (later_count 9 r) (arg / 16) n low) (ltb arg 16) refl)
  where
    few_least : (n v : ℕ) → 1 ≤ n → v < 128 ^ n → length (later_bytes 9 v) ≤ n
    few_least zero v p h = absurd (none p)
      where
        none : 1 ≤ 0 → ⊥
        none p = omega arith
    few_least (suc n) v p h = few n 9 v h
fewest_at kind l false e =
    let b : ℕ = first_byte l in
    let small : argument_from (b % 16) 0 < 16 = omega arith in
    rw e (rw (bytes_one kind (argument_from (b % 16) 0) small) (omega arith))

pub fewest : (kind : Kind) (l : List ℕ) → length (header_bytes kind (header_argument l)) ≤ header_length l
fewest kind l = fewest_at kind l (more_follow (first_byte l)) refl
