-- Filled reading is reading the source with zeros after it: they change no byte and no number. A block of the bytes at
-- a place, filled up with zeros, has the numbers that stand there; then the loop that fills such a block.
use mathlib.Core.Path.{◌≡◌, refl, ◌∙◌, sym, ap}
use mathlib.Core.List.{List, [], ◌∷◌, ◌++◌, append-nil}
use Prim.Native.Nat.{ℕ, zero, suc, ◌+◌, ◌≤◌, ◌<◌}
use native.Mathlib.Omega.{arith}
use borrow.Author.Rules.{rules}
use lib.ListN.{length, drop, get_or, set, replicate, length-append, length-replicate, drop_of_length-le}
use lib.Seq.{length-take-le, get_or-take, get_or-drop, take-take}
use Rattle.lent.specs.Lent.{copied_over}
use Rattle.lent.proofs.Ends.{Copying, copy_begins, copy_turn, copy_ends}
use Rattle.little.specs.Le.{from_le, number_at, filled_at}
use Rattle.little.proofs.At.{number_more, number_none}

no_byte : (k i : ℕ) → ◌≡◌ {A = ℕ} (get_or (replicate k 0) i 0) 0
no_byte zero i = refl
no_byte (suc k) zero = refl
no_byte (suc k) (suc i) = no_byte k i

-- zeros after a source
pub byte_zeros : (s : List ℕ) (k i : ℕ) → get_or (s ++ replicate k 0) i 0 ≡ get_or s i 0
byte_zeros [] k i = no_byte k i
byte_zeros (b ∷ s) k zero = refl
byte_zeros (b ∷ s) k (suc i) = byte_zeros s k i

pub number_zeros : (n : ℕ) (s : List ℕ) (k at : ℕ) → number_at n (s ++ replicate k 0) at ≡ number_at n s at
number_zeros zero s k at = number_none (s ++ replicate k 0) at ∙ sym (number_none s at)
number_zeros (suc n) s k at =
    rw (number_more n (s ++ replicate k 0) at, number_more n s at, byte_zeros s k at, number_zeros n s k (suc at)) refl

-- a block of n bytes
module _ (n : ℕ) (s : List ℕ) (at : ℕ) where
  pub filled_length : length (filled_at n s at) ≡ n
  unfolding filled_at
  filled_length =
      let all : length (drop at s ++ replicate n 0) ≡ length (drop at s) + n =
      length-append (drop at s) (replicate n 0) ∙ ap (λ (k : ℕ). length (drop at s) + k) (length-replicate n 0)
      in
      length-take-le n (drop at s ++ replicate n 0) (omega arith)

  pub filled_byte : (i : ℕ) → i < n → get_or (filled_at n s at) i 0 ≡ get_or s (at + i) 0
  unfolding filled_at
  filled_byte i h =
      get_or-take n (drop at s ++ replicate n 0) i 0 h ∙ byte_zeros (drop at s) n i ∙ get_or-drop at s i 0

  pub filled_number : (count : ℕ) → count ≤ n → number_at count (filled_at n s at) 0 ≡ number_at count s at
  unfolding filled_at number_at
  filled_number count h =
      ap from_le (take-take count n (drop at s ++ replicate n 0) h) ∙ number_zeros count (drop at s) n 0

-- what a reader has of a block that is filled: its length, room for any count of bytes up to that, and their number
module _ (n : ℕ) (s : List ℕ) (at : ℕ) (block : List ℕ) (b : block ≡ filled_at n s at) where
  pub block_length : n ≡ length block
  block_length = sym (ap length b ∙ filled_length n s at)

  module _ (count : ℕ) (few : count ≤ n) where
    pub block_room : (from : ℕ) → from ≡ 0 → from + count ≤ length block
    block_room from z = omega (arith, block_length)

    pub block_number : (bits : ℕ) → bits ≡ number_at count block 0 → bits ≡ number_at count s at
    block_number bits e =
        e ∙ ap (λ (l : List ℕ). number_at count l 0) b ∙ filled_number n s at count few

pub ruleset block_laws = (block_length, block_room, block_number)

-- The loop that fills a block: so many of its bytes are there, and the rest zero.
pub record Filling (n : ℕ) (s : List ℕ) (at : ℕ) (block : List ℕ) (i : ℕ) : Type 0 where
  pub copied : Copying (replicate n 0) (filled_at n s at) block i

module _ (n : ℕ) (s : List ℕ) (at : ℕ) where
  pub fill_begins : Filling n s at (replicate n 0) 0
  fill_begins = record { copied = copy_begins (replicate n 0) (filled_at n s at) }

  module _ (block : List ℕ) (i : ℕ) (f : Filling n s at block i) where
    pub fill_size : length block ≡ n
    fill_size = f.copied.size ∙ length-replicate n 0

    pub fill_turn : (b : ℕ) → i < n → b ≡ get_or s (at + i) 0 → Filling n s at (set block i b) (i + 1)
    fill_turn b h e =
        let long = filled_length n s at in
        let room = length-replicate {A = ℕ} n 0 in
        let same : get_or (filled_at n s at) i 0 ≡ b = filled_byte n s at i h ∙ sym e in
        record {
          copied = rw same at
              (copy_turn (replicate n 0) (filled_at n s at) block i f.copied (omega arith) (omega arith));
        }

    pub fill_ends : n ≤ i → block ≡ filled_at n s at
    unfolding copied_over
    fill_ends h =
        let long = filled_length n s at in
        let room = length-replicate {A = ℕ} n 0 in
        let none_left : drop {A = ℕ} (length (filled_at n s at)) (replicate n 0) ≡ [] =
        drop_of_length-le (replicate n 0) {i = length (filled_at n s at)} (omega arith)
        in
        copy_ends (replicate n 0) (filled_at n s at) block i f.copied (omega arith) ∙ rw (none_left, append-nil)

pub ruleset fill_laws = (fill_begins, fill_size, fill_turn, fill_ends, rules)
