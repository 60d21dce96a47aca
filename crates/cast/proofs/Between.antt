-- A whole number's tests against the two ends of a range, -b and b - 1: whether it lies below, between or above.
use mathlib.Core.Path.{◌≡◌, sym}
use mathlib.Core.Bool.{true, false, false≢true}
use Prim.Native.Nat.{ℕ, ◌-◌, ◌≤◌, ◌<◌}
use native.Mathlib.Omega.{arith}
use lib.Dec.{ltb}
use lib.IntN.{ℤ, pos, negsuc}
use lib.Signed.{mag, lt_z, le_z}
use borrow.Author.Tests.{lt-ltb, le-ltb, ltb-true, ltb-false, leb-true, leb-false}

module _ (b : ℕ) (p : 0 < b) where
  inner : (n : ℕ) → n ≤ b - 1 → n < b
  inner n h = omega arith

  outer : (n : ℕ) → b - 1 < n → b ≤ n
  outer n h = omega arith

  pub under : (z : ℤ) → lt_z z (negsuc (b - 1)) ≡ true → ltb (mag z) b ≡ false
  under (pos n) h = absurd (false≢true h)
  under (negsuc n) h = le-ltb n b (outer n (ltb-true (b - 1) n h))

  pub inside : (z : ℤ) → lt_z z (negsuc (b - 1)) ≡ false → le_z z (pos (b - 1)) ≡ true → ltb (mag z) b ≡ true
  inside (pos n) h l = lt-ltb n b (inner n (leb-true n (b - 1) l))
  inside (negsuc n) h l = lt-ltb n b (inner n (ltb-false (b - 1) n h))

  pub over : (z : ℤ) → le_z z (pos (b - 1)) ≡ false → ltb (mag z) b ≡ false
  over (pos n) h = le-ltb n b (outer n (leb-false n (b - 1) h))
  over (negsuc n) h = absurd (false≢true (sym h))
