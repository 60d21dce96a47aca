-- A value of two words, n bytes low and d bytes high: when the low word alone holds it, and when it does not. Over both
-- counts, since the numbers of 16 bytes are too large to be computed with.
use mathlib.Core.Path.{◌≡◌, refl, ◌∙◌, sym, ap}
use mathlib.Core.Bool.{Bool, true, false}
use Prim.Native.Nat.{ℕ, zero, suc, ◌+◌, ◌-◌, ◌*◌, ◌/◌, ◌^◌, ◌<◌, ◌≤◌}
use native.Mathlib.Omega.{arith}
use native.Mathlib.Nat.{mul-zero, mul_comm, mul-suc, mul-le-mul_left, le-mul_of_pos_right, pow-suc}
use lib.Dec.{ltb}
use lib.IntN.{negsuc}
use lib.Signed.{mag}
use borrow.Author.Tests.{ltb-true, ltb-false}
use Rattle.little.specs.Twos.{twos}
use Rattle.little.specs.Counts.{holds_s}
use Rattle.little.proofs.Width.{byte_pow_pos}
use Rattle.little.proofs.Two.{twos_low, twos_high, mag_not_held, even, wide}

-- the high words of all ones, and all that is above the low word
above : (n d : ℕ) → 0 < d → 256 ^ n ≤ (256 ^ d - 1) * 256 ^ n
above n (suc d) h =
    let some : 0 < 256 ^ suc d - 1 = rw (pow-suc 256 d) (omega (arith, byte_pow_pos d)) in
    rw (mul_comm (256 ^ suc d - 1) (256 ^ n)) (le-mul_of_pos_right (256 ^ n) some)
above n zero h = omega arith

ones : (n d high : ℕ) → high ≡ 256 ^ d - 1 → 256 ^ n * high ≡ (256 ^ d - 1) * 256 ^ n
ones n d high e = ap (λ (x : ℕ). 256 ^ n * x) e ∙ mul_comm (256 ^ n) (256 ^ d - 1)

none : (n high : ℕ) → high ≡ 0 → 256 ^ n * high ≡ 0
none n high e = ap (λ (x : ℕ). 256 ^ n * x) e ∙ mul-zero (256 ^ n)

-- between the halves of n bytes, from below and from above, n bytes do not hold it
far_at : (n m v : ℕ) (t : Bool) → ltb v (256 ^ m / 2) ≡ t → 256 ^ n / 2 ≤ v → v + 256 ^ n / 2 < 256 ^ m →
    256 ^ n / 2 ≤ mag (twos m v)
far_at n m v true e h k = rw (twos_low m v (ltb-true v (256 ^ m / 2) e)) h
far_at n m v false e h k = rw (twos_high m v (ltb-false v (256 ^ m / 2) e)) (omega arith)

pub far : (n m v : ℕ) → 256 ^ n / 2 ≤ v → v + 256 ^ n / 2 < 256 ^ m → holds_s n (twos m v) ≡ false
far n m v h k = mag_not_held n (twos m v) (far_at n m v (ltb v (256 ^ m / 2)) refl h k)

module _ (n d low high : ℕ) (0<n : 0 < n) (0<d : 0 < d) (fits : low < 256 ^ n) where
  -- the low word alone holds it: above the low word nothing, and its sign bit clear
  pub near_zero : high ≡ 0 → low < 256 ^ n / 2 → twos (n + d) (low + 256 ^ n * high) ≡ twos n low
  near_zero z h =
      let v : low + 256 ^ n * high ≡ low = omega (arith, none n high z) in
      rw v (twos_low (n + d) low (omega (arith, wide n d)) ∙ sym (twos_low n low h))

  -- above the low word all ones, and its sign bit set
  pub near_ones : high ≡ 256 ^ d - 1 → 256 ^ n / 2 ≤ low → twos (n + d) (low + 256 ^ n * high) ≡ twos n low
  near_ones o h =
      let half : 256 ^ (n + d) / 2 ≤ low + 256 ^ n * high = omega (arith, ones n d high o, wide n d, even n 0<n) in
      let same : 256 ^ (n + d) - 1 - (low + 256 ^ n * high) ≡ 256 ^ n - 1 - low =
      omega (arith, ones n d high o, wide n d)
      in
      twos_high (n + d) (low + 256 ^ n * high) half ∙ ap negsuc same ∙ sym (twos_high n low h)

  -- it does not: the sign bit differs from what is above, or that is mixed
  pub far_zero : high ≡ 0 → 256 ^ n / 2 ≤ low → holds_s n (twos (n + d) (low + 256 ^ n * high)) ≡ false
  far_zero z h =
      far n (n + d) (low + 256 ^ n * high) (omega arith) (omega (arith, none n high z, wide n d, above n d 0<d))

  pub far_ones : high ≡ 256 ^ d - 1 → low < 256 ^ n / 2 → holds_s n (twos (n + d) (low + 256 ^ n * high)) ≡ false
  far_ones o h =
      far n (n + d) (low + 256 ^ n * high) (omega (arith, ones n d high o, above n d 0<d))
      (omega (arith, ones n d high o, wide n d))

  pub far_between : 0 < high → high < 256 ^ d - 1 → holds_s n (twos (n + d) (low + 256 ^ n * high)) ≡ false
  far_between p q =
      let least : 256 ^ n ≤ 256 ^ n * high = le-mul_of_pos_right (256 ^ n) p in
      let most : 256 ^ n * high + 256 ^ n ≤ (256 ^ d - 1) * 256 ^ n =
      rw (← mul-suc (256 ^ n) high, mul_comm (256 ^ d - 1) (256 ^ n)) (mul-le-mul_left (256 ^ n) q) in
      far n (n + d) (low + 256 ^ n * high) (omega arith) (omega (arith, wide n d))
