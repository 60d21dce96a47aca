-- A writer's level, over the count of its bytes: where the next smaller count does not hold the value and this one
-- does, it is the shortest, and what is stored is the value's bytes.
use mathlib.Core.Path.{◌≡◌, refl, ◌∙◌, sym, ap}
use mathlib.Core.Bool.{Bool, true, false}
use mathlib.Core.List.{List, [], ◌∷◌}
use Prim.Native.Nat.{ℕ, ◌+◌, ◌-◌, ◌*◌, ◌/◌, ◌^◌, ◌≤◌, ◌<◌}
use native.Mathlib.Omega.{arith}
use lib.Dec.{ltb, leb, lit<, lit≤}
use lib.IntN.{ℤ}
use lib.Signed.{mag}
use borrow.Author.Tests.{lt-ltb, le-ltb, leb-true}
use Rattle.types.specs.Choice.{pick}
use Rattle.types.specs.Kinds.{kind_code}
use Rattle.types.specs.Forms.{integers_written}
use Rattle.types.specs.declared.Kind.{Kind}
use Rattle.types.specs.declared.Kind.TheVariants as K
use Rattle.header.proofs.Answers.{bytes_one}
use Rattle.little.specs.Le.{to_le}
use Rattle.little.specs.Twos.{twos_bits}
use Rattle.little.specs.Counts.{first_that, holds_u, holds_s, shortest_u, shortest_s}
use Rattle.little.proofs.Two.{mag_held, mag_not_held, holds_u_more, holds_s_more, low_bytes}
use Rattle.writers.specs.Bytes.{integer_bytes, signed_bytes, unsigned_bytes}

-- those of a rising list that are above m, and the last that is below n
abbrev pub above : ℕ → List ℕ → List ℕ
above m [] = []
above m (c ∷ cs) = pick (leb c m) (above m cs) (c ∷ cs)

abbrev pub last_below : ℕ → ℕ → List ℕ → ℕ
last_below n m [] = m
last_below n m (c ∷ cs) = pick (ltb c n) (last_below n c cs) m

-- the count before n, or 0
abbrev pub smaller : ℕ → ℕ
smaller n = last_below n 0 integers_written

-- n is a count
abbrev pub Count : ℕ → Type 0
Count n = (above (smaller n) integers_written ≡ n ∷ above n integers_written) × (0 < n) × (n ≤ 16)

-- where a test fails up to m, the first that passes is the first above m that does
first_above_at : (p : ℕ → Bool) (m c : ℕ) (cs : List ℕ) (t : Bool) → leb c m ≡ t → ((d : ℕ) → d ≤ m → p d ≡ false) →
    first_that p cs ≡ first_that p (above m cs) → first_that p (c ∷ cs) ≡ first_that p (above m (c ∷ cs))
unfolding first_that
first_above_at p m c cs true e none ih = simp (e, none c (leb-true c m e)) ih
first_above_at p m c cs false e none ih = simp e

first_above : (p : ℕ → Bool) (m : ℕ) → ((d : ℕ) → d ≤ m → p d ≡ false) → (l : List ℕ) →
    first_that p l ≡ first_that p (above m l)
unfolding first_that
first_above p m none [] = refl
first_above p m none (c ∷ cs) = first_above_at p m c cs (leb c m) refl none (first_above p m none cs)

not_both : (t : Bool) → (t ≡ true → true ≡ false) → t ≡ false
not_both true h = h refl
not_both false h = refl

-- what it is for n bytes to hold a number
pub unsigned_held : (n k : ℕ) → k < 256 ^ n → holds_u n k ≡ true
unfolding holds_u
unsigned_held n k h = lt-ltb k (256 ^ n) h

pub unsigned_not_held : (n k : ℕ) → 256 ^ n ≤ k → holds_u n k ≡ false
unfolding holds_u
unsigned_not_held n k h = le-ltb k (256 ^ n) h

-- the header of a number is one byte, since its count is at most 16
number_bytes : (kind : Kind) (n bits first : ℕ) → Count n → first ≡ kind_code kind * 32 + (n - 1) →
    first ∷ to_le n bits ≡ integer_bytes kind n bits
unfolding integer_bytes
number_bytes kind n bits first count e =
    let above-none = count.1 in
    let few = count.2 in
    rw (e, bytes_one kind (n - 1) (omega arith))

module _ (n : ℕ) (count : Count n) where
  -- a test that n passes and the count before it does not, and that whatever is above a number that passes does too
  shortest : (p : ℕ → Bool) → ((d e : ℕ) → d ≤ e → p d ≡ true → p e ≡ true) → p (smaller n) ≡ false → p n ≡ true →
      first_that p integers_written ≡ n
  unfolding first_that
  shortest p more past h =
      let none = first_above p (smaller n) (λ d l. not_both (p d) (λ y. sym (more d (smaller n) l y) ∙ past))
      integers_written in
      none ∙ ap (first_that p) count.0 ∙ simp h

  -- what is stored: the header byte, and the n lowest bytes of what w bytes hold for the value
  pub signed_level : (w : ℕ) (z : ℤ) (bits first : ℕ) → bits ≡ twos_bits w z → 256 ^ smaller n / 2 ≤ mag z →
      mag z < 256 ^ n / 2 → n ≤ w → first ≡ 32 + (n - 1) → first ∷ to_le n bits ≡ signed_bytes z
  unfolding signed_bytes shortest_s
  signed_level w z bits first b past h le e =
      let held = mag_held n z h in
      let short : shortest_s z ≡ n =
      shortest (λ d. holds_s d z) (λ d e. holds_s_more d e z) (mag_not_held (smaller n) z past) held in
      let low : to_le n bits ≡ to_le n (twos_bits n z) = ap (to_le n) b ∙ low_bytes n w z le held in
      rw (short, low) (number_bytes K.Int n (twos_bits n z) first count e)

  pub unsigned_level : (k first : ℕ) → 256 ^ smaller n ≤ k → k < 256 ^ n → first ≡ 64 + (n - 1) →
      first ∷ to_le n k ≡ unsigned_bytes k
  unfolding unsigned_bytes shortest_u
  unsigned_level k first past h e =
      let not_held = unsigned_not_held (smaller n) k past in
      let held = unsigned_held n k h in
      let short : shortest_u k ≡ n = shortest (λ d. holds_u d k) (λ d e. holds_u_more d e k) not_held held in
      rw short (number_bytes K.UInt n k first count e)

-- the smallest level has no smaller one: 0 bytes hold 0, and are no count
pub unsigned_first : (k : ℕ) → k < 256 ^ 1 → 64 ∷ to_le 1 k ≡ unsigned_bytes k
unfolding unsigned_bytes shortest_u first_that
unsigned_first k h =
    let short : shortest_u k ≡ 1 = simp (unsigned_held 1 k h) in
    number_bytes K.UInt 1 k 64 (refl, lit< tt, lit≤ tt) refl ∙ ap (λ (c : ℕ). integer_bytes K.UInt c k) (sym short)
