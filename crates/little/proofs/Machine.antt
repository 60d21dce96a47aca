-- The machine's 8 bytes of a word are those of these definitions: a block whose first bytes are read, and the lowest
-- bytes of a word that are written. Then the ends of the function that reads.
use mathlib.Core.Path.{◌≡◌, ◌∙◌, sym, ap}
use mathlib.Core.List.{List, ◌++◌}
use Prim.Native.Nat.{ℕ, ◌+◌, ◌-◌, ◌/◌, ◌^◌, ◌<◌, ◌≤◌}
use native.Mathlib.Omega.{arith}
use borrow.Author.Rules.{rules}
use borrow.Rule.Slice.PartMut.{post_of}
use lib.ListN.{length, length-take, take, drop, replicate, get_or}
use lib.Seq.{take-append_seam, take_all}
use mir.Syntax.{w8, w64}
use mir.Val.{Fits}
use Rattle.std.specs.Int.{from_le_bytes, to_le_bytes}
use Rattle.std.proofs.lemmas.List.{drop-replicate}
use Rattle.little.specs.Le.{from_le, to_le, number_at}
use Rattle.little.proofs.At.{number_more, number_none, number_lt}
use Rattle.little.proofs.Width.{to_length, to_add, to_spread}
use Rattle.little.proofs.Zeros.{number_zeros}

-- eight bytes, read and written
read_word : (bytes : List ℕ) → from_le_bytes w64 bytes ≡ number_at 8 bytes 0
read_word bytes =
    rw (
      number_more 7 bytes 0,
      number_more 6 bytes 1,
      number_more 5 bytes 2,
      number_more 4 bytes 3,
      number_more 3 bytes 4,
      number_more 2 bytes 5,
      number_more 1 bytes 6,
      number_more 0 bytes 7,
      number_none bytes 8,
    ) (omega arith)

pub written_word : (v : ℕ) → to_le_bytes w64 v ≡ to_le 8 v
written_word v = to_spread 7 v

-- the first n bytes of m are the n lowest
first_bytes : (n m v : ℕ) → n ≤ m → take n (to_le m v) ≡ to_le n v
first_bytes n m v h =
    let e : n + (m - n) ≡ m = omega arith in
    let above : List ℕ = to_le (m - n) (v / 256 ^ n) in
    let split : to_le m v ≡ to_le n v ++ above = rw e at (to_add n (m - n) v) in
    ap (take n) split ∙ ap (λ (k : ℕ). take k (to_le n v ++ above)) (sym (to_length n v))
    ∙ take-append_seam (to_le n v) above

pub stored_bytes : (n v : ℕ) (bytes part : List ℕ) → part ≡ take (n - 0) bytes → bytes ≡ to_le_bytes w64 v → n ≤ 8 →
    part ≡ to_le n v
stored_bytes n v bytes part e word few =
    let same : n - 0 ≡ n = omega arith in
    e ∙ ap (λ (k : ℕ). take k bytes) same ∙ ap (take n) (word ∙ written_word v) ∙ first_bytes n 8 v few

-- a block of eight bytes whose first n are those at a place, and the rest zero
module _ (s : List ℕ) (at n : ℕ) (part : List ℕ) (r : ℕ)
    (e : r ≡ from_le_bytes w64 (part ++ post_of 0 (n - 0) (replicate 8 0))) (is : part ≡ take (at + n - at) (drop at s))
    (few : n ≤ 8) where
  pub block_number : r ≡ number_at n s at
  unfolding number_at
  block_number =
      let same : at + n - at ≡ n = omega arith in
      let none : n - 0 ≡ n = omega arith in
      let long : length part ≤ 8 = simp (is, same, length-take) (omega arith) in
      e ∙ ap (λ (k : ℕ). from_le_bytes w64 (part ++ post_of 0 k (replicate 8 0))) none
      ∙ read_word (part ++ post_of 0 n (replicate 8 0))
      ∙ ap (λ (l : List ℕ). number_at 8 (part ++ l) 0) (drop-replicate n 8 0) ∙ number_zeros 8 part (8 - n) 0
      ∙ ap from_le (take_all 8 part long) ∙ ap from_le is ∙ ap (λ (k : ℕ). from_le (take k (drop at s))) same

  pub block_below : ((i : ℕ) → Fits w8 (get_or s i 0)) → r < 256 ^ n
  block_below bytes = rw block_number (number_lt n s at (λ i. (bytes i).fits))

pub ruleset number_ends = (block_number, block_below, rules)
