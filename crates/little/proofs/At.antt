-- The number of the bytes at a place, over the byte count: byte by byte, in two parts, and where its bytes stand. Then
-- the same as straight-line code computes it, from one byte on.
use mathlib.Core.Path.{◌≡◌, refl, ◌∙◌, sym, ap}
use mathlib.Core.Bool.{Bool, true, false}
use mathlib.Core.List.{List, ◌++◌}
use Prim.Native.Nat.{ℕ, zero, suc, ◌+◌, ◌-◌, ◌*◌, ◌%◌, ◌^◌, ◌<◌, ◌≤◌}
use native.Mathlib.Omega.{arith}
use native.Mathlib.Nat.{zero-add, add-zero, suc-add, mul_comm, mul_assoc, pow-suc, pow-succ'}
use lib.Dec.{ltb, lit<}
use lib.ListN.{length, get_or, drop_of_length-le, get_or-eq_default}
use lib.Seq.{drop-cons, take-nil, drop_at, take-append_seam}
use borrow.Author.Tests.{ltb-true, ltb-false}
use Rattle.little.specs.Le.{from_le, to_le, number_at}
use Rattle.little.proofs.Width.{from_to, to_length}

past : (s : List ℕ) (j : ℕ) → length s ≤ j → get_or s j 0 ≡ 0
past s j h = get_or-eq_default s 0 h

more_at : (n : ℕ) (s : List ℕ) (at : ℕ) (t : Bool) → ltb at (length s) ≡ t →
    number_at (suc n) s at ≡ get_or s at 0 + 256 * number_at n s (suc at)
unfolding from_le number_at
more_at n s at true e = rw (drop-cons s at 0 (ltb-true at (length s) e))
more_at n s at false e =
    let h : length s ≤ at = ltb-false at (length s) e in
    rw (drop_of_length-le s {i = at} h, drop_of_length-le s {i = suc at} (omega arith), past s at h, take-nil n)

-- one byte more in front, also past the end
pub number_more : (n : ℕ) (s : List ℕ) (at : ℕ) → number_at (suc n) s at ≡ get_or s at 0 + 256 * number_at n s (suc at)
number_more n s at = more_at n s at (ltb at (length s)) refl

pub number_none : (s : List ℕ) (at : ℕ) → number_at 0 s at ≡ 0
unfolding from_le number_at
number_none s at = refl

-- n + m bytes: the n lowest, and m bytes above them
pub number_add : (n m : ℕ) (s : List ℕ) (at : ℕ) →
    number_at (n + m) s at ≡ number_at n s at + 256 ^ n * number_at m s (at + n)
number_add zero m s at = rw (zero-add m, number_none s at, add-zero at) (omega arith)
number_add (suc n) m s at =
    let next : suc at + n ≡ at + suc n = omega arith in
    rw (
      suc-add n m,
      number_more (n + m) s at,
      number_more n s at,
      number_add n m s (suc at),
      next,
      pow-succ' 256 n,
      mul_assoc,
    ) (omega arith)

-- of bytes, it fits its count
pub number_lt : (n : ℕ) (s : List ℕ) (at : ℕ) → ((i : ℕ) → get_or s i 0 < 256) → number_at n s at < 256 ^ n
number_lt zero s at h = rw (number_none s at) (lit< tt)
number_lt (suc n) s at h = rw (number_more n s at, pow-suc 256 n) (omega (arith, h at, number_lt n s (suc at) h))

-- where bytes stand, their number is read
pub number_stands : (before bytes after : List ℕ) →
    number_at (length bytes) (before ++ (bytes ++ after)) (length before) ≡ from_le bytes
unfolding number_at
number_stands before bytes after =
    rw (drop_at before (bytes ++ after) (length before) refl, take-append_seam bytes after)

-- where the bytes of k stand, k is read
pub number_reads : (n k : ℕ) (s : List ℕ) (at : ℕ) (before after : List ℕ) → s ≡ before ++ (to_le n k ++ after) →
    at ≡ length before → number_at n s at ≡ k % 256 ^ n
number_reads n k s at before after e a =
    let stands : number_at n (before ++ (to_le n k ++ after)) (length before) ≡ from_le (to_le n k) =
    rw (to_length n k) at (number_stands before (to_le n k) after)
    in
    rw (e, a, stands, from_to n k)

-- Straight-line code: one byte, a byte above those that are read, and two numbers.
module _ (s : List ℕ) (at : ℕ) where
  pub one_byte : (b : ℕ) → b ≡ get_or s at 0 → b ≡ number_at 1 s at
  one_byte b e = e ∙ sym (number_more 0 s at ∙ rw (number_none s (suc at)) (omega arith))

  pub two_parts : (n total low high weight : ℕ) → low ≡ number_at n s at → high ≡ number_at (total - n) s (at + n) →
      n ≤ total → weight ≡ 256 ^ n → low + high * weight ≡ number_at total s at
  two_parts n total low high weight l h k w =
      let all : n + (total - n) ≡ total = omega arith in
      rw (l, h, w) (ap (λ (m : ℕ). number_at n s at + m) (mul_comm (number_at (total - n) s (at + n)) (256 ^ n))
      ∙ sym (number_add n (total - n) s at) ∙ ap (λ (m : ℕ). number_at m s at) all)

  pub byte_above : (n low b weight : ℕ) → low ≡ number_at (n - 1) s at → b ≡ get_or s (at + (n - 1)) 0 → 0 < n →
      weight ≡ 256 ^ (n - 1) → low + b * weight ≡ number_at n s at
  byte_above n low b weight l e p w =
      let one : n - (n - 1) ≡ 1 = omega arith in
      let alone : number_at 1 s (at + (n - 1)) ≡ get_or s (at + (n - 1)) 0 =
      number_more 0 s (at + (n - 1)) ∙ rw (number_none s (suc (at + (n - 1)))) (omega arith)
      in
      let high : b ≡ number_at (n - (n - 1)) s (at + (n - 1)) = rw one (e ∙ sym alone) in
      two_parts (n - 1) n low b weight l high (omega arith) w
