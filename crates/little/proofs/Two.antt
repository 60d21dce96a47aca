-- Two's complement, over the byte count n: a value and what n bytes hold for it are inverse.
use mathlib.Core.Path.{◌≡◌, refl, ◌∙◌, sym, ap}
use mathlib.Core.Bool.{Bool, true, false}
use Prim.Native.Nat.{ℕ, zero, suc, ◌+◌, ◌-◌, ◌*◌, ◌/◌, ◌%◌, ◌^◌, ◌≤◌, ◌<◌}
use native.Mathlib.Omega.{arith}
use native.Mathlib.Nat.{mod-eq_of_lt, mul_comm, mul-suc, pow-suc, pow-le-pow_right, lt_of_lt_of_le}
use lib.Arith.{digits_mod}
use lib.Dec.{ltb, lit<}
use lib.IntN.{ℤ, pos, negsuc}
use lib.Pow.{pow-add}
use lib.Signed.{mag}
use mir.Syntax.{Width, w128}
use mir.Val.{to_z, sel, bits, hbits}
use borrow.Author.Tests.{lt-ltb, le-ltb, ltb-true, ltb-false}
use Rattle.types.specs.Choice.{pick}
use Rattle.little.specs.Le.{to_le}
use Rattle.little.specs.Twos.{twos, twos_bits}
use Rattle.little.specs.Counts.{holds_u, holds_s}
use Rattle.little.proofs.Width.{byte_pow_pos, to_same}

-- what it is to be held, as an order
pub held_mag : (n : ℕ) (z : ℤ) → holds_s n z ≡ true → mag z < 256 ^ n / 2
unfolding holds_s
held_mag n (pos k) h = ltb-true k (256 ^ n / 2) h
held_mag n (negsuc k) h = ltb-true k (256 ^ n / 2) h

pub mag_held : (n : ℕ) (z : ℤ) → mag z < 256 ^ n / 2 → holds_s n z ≡ true
unfolding holds_s
mag_held n (pos k) h = lt-ltb k (256 ^ n / 2) h
mag_held n (negsuc k) h = lt-ltb k (256 ^ n / 2) h

pub not_held_mag : (n : ℕ) (z : ℤ) → holds_s n z ≡ false → 256 ^ n / 2 ≤ mag z
unfolding holds_s
not_held_mag n (pos k) h = ltb-false k (256 ^ n / 2) h
not_held_mag n (negsuc k) h = ltb-false k (256 ^ n / 2) h

pub mag_not_held : (n : ℕ) (z : ℤ) → 256 ^ n / 2 ≤ mag z → holds_s n z ≡ false
unfolding holds_s
mag_not_held n (pos k) h = le-ltb k (256 ^ n / 2) h
mag_not_held n (negsuc k) h = le-ltb k (256 ^ n / 2) h

-- below the half, and from the half on
pub twos_low : (n v : ℕ) → v < 256 ^ n / 2 → twos n v ≡ pos v
unfolding twos
twos_low n v h = simp (lt-ltb v (256 ^ n / 2) h)

pub twos_high : (n v : ℕ) → 256 ^ n / 2 ≤ v → twos n v ≡ negsuc (256 ^ n - 1 - v)
unfolding twos
twos_high n v h = simp (le-ltb v (256 ^ n / 2) h)

-- a held value comes back
pub twos_bits_lem : (n : ℕ) (z : ℤ) → holds_s n z ≡ true → twos n (twos_bits n z) ≡ z
unfolding twos_bits
twos_bits_lem n (pos k) h = twos_low n k (held_mag n (pos k) h)
twos_bits_lem n (negsuc k) h =
    let m : k < 256 ^ n / 2 = held_mag n (negsuc k) h in
    twos_high n (256 ^ n - 1 - k) (omega arith) ∙ ap negsuc (omega arith)

-- the bytes' number comes back
bits_twos_at : (n v : ℕ) (t : Bool) → ltb v (256 ^ n / 2) ≡ t → v < 256 ^ n → twos_bits n (twos n v) ≡ v
unfolding twos_bits
bits_twos_at n v true e h = rw (twos_low n v (ltb-true v (256 ^ n / 2) e))
bits_twos_at n v false e h = rw (twos_high n v (ltb-false v (256 ^ n / 2) e)) (omega arith)

pub bits_twos : (n v : ℕ) → v < 256 ^ n → twos_bits n (twos n v) ≡ v
bits_twos n v h = bits_twos_at n v (ltb v (256 ^ n / 2)) refl h

-- what is read is held
pub even : (n : ℕ) → 0 < n → 256 ^ n / 2 + 256 ^ n / 2 ≡ 256 ^ n
even zero h = omega arith
even (suc n) h = rw (pow-suc 256 n) (omega arith)

twos_held_at : (n v : ℕ) (t : Bool) → ltb v (256 ^ n / 2) ≡ t → 0 < n → v < 256 ^ n → mag (twos n v) < 256 ^ n / 2
twos_held_at n v true e p h = rw (twos_low n v (ltb-true v (256 ^ n / 2) e)) (ltb-true v (256 ^ n / 2) e)
twos_held_at n v false e p h =
    let m : 256 ^ n / 2 ≤ v = ltb-false v (256 ^ n / 2) e in
    rw (twos_high n v m) (omega (arith, even n p))

pub twos_held : (n v : ℕ) → 0 < n → v < 256 ^ n → holds_s n (twos n v) ≡ true
twos_held n v p h = mag_held n (twos n v) (twos_held_at n v (ltb v (256 ^ n / 2)) refl p h)

-- what is written fits
pub bits_lt : (n : ℕ) (z : ℤ) → holds_s n z ≡ true → twos_bits n z < 256 ^ n
unfolding twos_bits
bits_lt n (pos k) h = let m : k < 256 ^ n / 2 = held_mag n (pos k) h in omega arith
bits_lt n (negsuc k) h = omega (arith, byte_pow_pos n)

-- low bytes agree across widths
pub wide : (n d : ℕ) → 256 ^ (n + d) ≡ (256 ^ d - 1) * 256 ^ n + 256 ^ n
wide n d =
    let e : 256 ^ d ≡ suc (256 ^ d - 1) = omega (arith, byte_pow_pos d) in
    pow-add 256 n d ∙ ap (λ (x : ℕ). 256 ^ n * x) e ∙ mul-suc (256 ^ n) (256 ^ d - 1)
    ∙ ap (λ (x : ℕ). x + 256 ^ n) (mul_comm (256 ^ n) (256 ^ d - 1))

below_wide : (n d k : ℕ) → k < 256 ^ n → (256 ^ (n + d) - 1 - k) % 256 ^ n ≡ 256 ^ n - 1 - k
below_wide n d k h =
    let e : 256 ^ (n + d) - 1 - k ≡ (256 ^ d - 1) * 256 ^ n + (256 ^ n - 1 - k) = omega (arith, wide n d) in
    ap (λ (x : ℕ). x % 256 ^ n) e ∙ digits_mod (256 ^ d - 1) {m = 256 ^ n} {r = 256 ^ n - 1 - k} (omega arith)

pub low_bytes : (n m : ℕ) (z : ℤ) → n ≤ m → holds_s n z ≡ true → to_le n (twos_bits m z) ≡ to_le n (twos_bits n z)
unfolding twos_bits
low_bytes n m (pos k) le h = refl
low_bytes n m (negsuc k) le h =
    let l : k < 256 ^ n / 2 = held_mag n (negsuc k) h in
    let e : n + (m - n) ≡ m = omega arith in
    let small : 256 ^ n - 1 - k < 256 ^ n = omega arith in
    let low = rw e at (below_wide n (m - n) k (omega arith)) in
    to_same n (256 ^ m - 1 - k) (256 ^ n - 1 - k) (low ∙ sym (mod-eq_of_lt small))

-- more bytes hold it too
pub holds_u_more : (n m k : ℕ) → n ≤ m → holds_u n k ≡ true → holds_u m k ≡ true
unfolding holds_u
holds_u_more n m k le h =
    let p : 256 ^ n ≤ 256 ^ m = pow-le-pow_right {n = 256} (lit< tt) {i = n} {j = m} le in
    lt-ltb k (256 ^ m) (lt_of_lt_of_le (ltb-true k (256 ^ n) h) p)

pub holds_s_more : (n m : ℕ) (z : ℤ) → n ≤ m → holds_s n z ≡ true → holds_s m z ≡ true
holds_s_more n m z le h =
    let p : 256 ^ n ≤ 256 ^ m = pow-le-pow_right {n = 256} (lit< tt) {i = n} {j = m} le in
    let k : mag z < 256 ^ n / 2 = held_mag n z h in
    mag_held m z (omega arith)

-- the machine's own two's complement of a width is that of as many bytes
chosen : (t : Bool) (m n : ℕ) → sel t (pos n) (negsuc (m - suc n)) ≡ pick t (pos n) (negsuc (m - 1 - n))
chosen true m n = refl
chosen false m n = ap negsuc (omega arith)

pub width_twos : (w : Width) (n v : ℕ) → 2 ^ bits w ≡ 256 ^ n → 2 ^ hbits w ≡ 256 ^ n / 2 → to_z w v ≡ twos n v
unfolding twos
width_twos w n v full half =
    chosen (ltb v (2 ^ hbits w)) (2 ^ bits w) v
    ∙ ap (λ (m : ℕ). pick (ltb v m) (pos v) (negsuc (2 ^ bits w - 1 - v))) half
    ∙ ap (λ (m : ℕ). pick (ltb v (256 ^ n / 2)) (pos v) (negsuc (m - 1 - v))) full

pub machine_twos : (n : ℕ) → to_z w128 n ≡ twos 16 n
machine_twos n = width_twos w128 16 n refl refl
