-- Signed values of a machine's width and what n bytes hold for them, over both. Where the width has as many bytes, its
-- own two's complement is theirs; a number of fewer bytes is shifted to the width's top, and back as a signed value. A
-- value whose sign was tested by `0 <= v` is a number as it is, or its complement is, which the machine has as `!v`; a
-- number below the half is a value as it is.
use mathlib.Core.Path.{◌≡◌, refl, ◌∙◌, sym, ap}
use mathlib.Core.Bool.{Bool, true, false, false≢true}
use Prim.Native.Nat.{ℕ, zero, suc, ◌+◌, ◌-◌, ◌*◌, ◌/◌, ◌%◌, ◌^◌, ◌≤◌, ◌<◌}
use native.Mathlib.Omega.{arith}
use native.Mathlib.Nat.{zero-add, add-mul, suc-mul, mul-suc, mul-div_cancel, add-mul-div_right, div-eq_of_lt, mod-eq_of_lt}
use native.Mathlib.Nat.{pow-suc, mul-lt-mul_of_pos_right, mul-le-mul_right, le-mul_of_pos_right, lt_of_lt_of_le}
use borrow.Author.Rules.{rules}
use borrow.Author.Tests.{ltb-true, ltb-false, leb-false}
use lib.Dec.{T, ltb, leb, leb→le}
use lib.IntN.{ℤ, pos, negsuc, nat_abs}
use lib.Pow.{pow-add, pow_pos}
use lib.Signed.{le_z, non_neg, mag, shr_z}
use mir.Syntax.{Width, w64}
use mir.Val.{Fits, SFits, to_z, of_z, bits, hbits}
use mir.ValLaws.{to_z-of_z, of_z-to_z, to_z_pos, to_z-neg, half_full}
use Rattle.little.specs.Twos.{twos, twos_bits}
use Rattle.little.proofs.Width.{byte_pow_pos}
use Rattle.little.proofs.Two.{width_twos, twos_low, twos_high, twos_held, held_mag, even}

-- as many bytes as the width has
module _ (w : Width) (n : ℕ) (full : 2 ^ bits w ≡ 256 ^ n) (half : 2 ^ hbits w ≡ 256 ^ n / 2) where
  pub signed_value : (v : ℕ) (z : ℤ) → Fits w v → z ≡ to_z w v → to_z w (of_z w z) ≡ twos n v
  signed_value v z f e = rw (e, of_z-to_z w v f) (width_twos w n v full half)

  stored : (z : ℤ) → of_z w z ≡ twos_bits n z
  unfolding twos_bits
  stored (pos k) = refl
  stored (negsuc k) = rw full (omega arith)

  pub unsigned_value : (z : ℤ) (r : ℕ) → SFits w z → r ≡ of_z w (to_z w (of_z w z)) → r ≡ twos_bits n z
  unsigned_value z r f e = e ∙ ap (of_z w) (to_z-of_z w z f) ∙ stored z

-- fewer bytes: their number, shifted to the top by a factor m
module _ (w : Width) (n m : ℕ) (full : 256 ^ n * m ≡ 2 ^ bits w) (half : 256 ^ n / 2 * m ≡ 2 ^ hbits w)
    (0<n : 0 < n) (some : 0 < m) (v : ℕ) (fits : v < 256 ^ n) where
  low : v < 256 ^ n / 2 → shr_z (to_z w (v * m)) m ≡ twos n v
  low h =
      let small : v * m < 2 ^ hbits w = rw (← half) (mul-lt-mul_of_pos_right h some) in
      rw (to_z_pos w (v * m) small, mul-div_cancel v some) (sym (twos_low n v h))

  high : 256 ^ n / 2 ≤ v → shr_z (to_z w (v * m)) m ≡ twos n v
  high h =
      let k : ℕ = 256 ^ n - 1 - v in
      let parts : 256 ^ n ≡ v + suc k = omega arith in
      let products : 256 ^ n * m ≡ v * m + suc k * m = ap (λ (x : ℕ). x * m) parts ∙ add-mul v (suc k) m in
      let above : v * m ≡ 2 ^ bits w - suc (m - 1 + k * m) = omega (arith, suc-mul k m) in
      let below : suc k * m ≤ 256 ^ n / 2 * m = mul-le-mul_right m (omega (arith, even n 0<n)) in
      let small : m - 1 + k * m < 2 ^ hbits w = omega (arith, suc-mul k m) in
      let rest : (m - 1) / m ≡ 0 = div-eq_of_lt (omega arith) in
      let back : (m - 1 + k * m) / m ≡ k =
      add-mul-div_right (m - 1) k some ∙ ap (λ (x : ℕ). x + k) rest ∙ zero-add k in
      rw (above, to_z-neg w (m - 1 + k * m) small, back) (sym (twos_high n v h))

  shifted : (t : Bool) → ltb v (256 ^ n / 2) ≡ t → shr_z (to_z w (v * m)) m ≡ twos n v
  shifted true e = low (ltb-true v (256 ^ n / 2) e)
  shifted false e = high (ltb-false v (256 ^ n / 2) e)

byte_bits : (n : ℕ) → 256 ^ n ≡ 2 ^ (8 * n)
byte_bits zero = refl
byte_bits (suc n) = rw (pow-suc 256 n, byte_bits n, mul-suc 8 n, pow-add 2 (8 * n) 8) refl

module _ (n : ℕ) (some : 0 < n) (v : ℕ) (fits : v < 256 ^ n) where
  -- what n bytes hold is within a width that is as wide, also if it was of 64 bits
  within : (w : Width) → 256 ^ n / 2 ≤ 2 ^ hbits w → SFits w (twos n v)
  within w wide = record { sfits = lt_of_lt_of_le (held_mag n (twos n v) (twos_held n v some fits)) wide }

  module _ (z : ℤ) (e : z ≡ twos n v) (t : T (leb (256 ^ n / 2) (2 ^ hbits w64))) where
    same : to_z w64 (of_z w64 z) ≡ twos n v
    same = rw e (to_z-of_z w64 (twos n v) (within w64 (leb→le _ _ t)))

    pub value_fits : (w : Width) → T (leb (256 ^ n / 2) (2 ^ hbits w)) → SFits w (to_z w64 (of_z w64 z))
    value_fits w u = rw same (within w (leb→le _ _ u))

    pub value_kept : (w : Width) → T (leb (256 ^ n / 2) (2 ^ hbits w)) → to_z w (of_z w (to_z w64 (of_z w64 z))) ≡ twos n v
    value_kept w u = rw same (to_z-of_z w (twos n v) (within w (leb→le _ _ u)))

  -- the factor of the machine's eight bytes over n
  module _ (few : n ≤ 8) where
    abbrev m : ℕ
    m = 2 ^ (64 - 8 * n)

    full : 256 ^ n * m ≡ 2 ^ 64
    full =
        let all : 8 * n + (64 - 8 * n) ≡ 64 = omega arith in
        ap (λ (x : ℕ). x * m) (byte_bits n) ∙ sym (pow-add 2 (8 * n) (64 - 8 * n)) ∙ ap (λ (x : ℕ). 2 ^ x) all

    half : 256 ^ n / 2 * m ≡ 2 ^ 63
    half =
        let h : ℕ = 256 ^ n / 2 in
        let twice : h * m + h * m ≡ 2 ^ 64 = sym (add-mul h h m) ∙ ap (λ (x : ℕ). x * m) (even n some) ∙ full in
        omega arith

    pub sign_kept : (z : ℤ) → z ≡ to_z w64 (v * 2 ^ (64 - 8 * n) % 2 ^ 64) →
        to_z w64 (of_z w64 (shr_z (to_z w64 (of_z w64 z)) (2 ^ (64 - 8 * n)))) ≡ twos n v
    sign_kept z e =
        let product : v * m < 256 ^ n * m = mul-lt-mul_of_pos_right fits (pow_pos (64 - 8 * n)) in
        let small : v * m < 2 ^ 64 = rw full at product in
        let bits_of : of_z w64 z ≡ v * m =
        ap (of_z w64) (e ∙ ap (to_z w64) (mod-eq_of_lt small)) ∙ of_z-to_z w64 (v * m) (record { fits = small }) in
        let signed : shr_z (to_z w64 (of_z w64 z)) m ≡ twos n v =
        ap (λ (x : ℕ). shr_z (to_z w64 x) m) bits_of
        ∙ shifted w64 n m full half some (pow_pos (64 - 8 * n)) v fits (ltb v (256 ^ n / 2)) refl
        in
        let most : 256 ^ n / 2 ≤ 2 ^ 63 = rw half at (le-mul_of_pos_right (256 ^ n / 2) (pow_pos (64 - 8 * n))) in
        rw signed (to_z-of_z w64 (twos n v) (within w64 most))

pub ruleset sign_ends = (signed_value, unsigned_value, value_fits, value_kept, sign_kept, rules)

-- a value: not negative, itself
module _ (w : Width) where
  as_magnitude : (z : ℤ) → SFits w z → le_z (pos 0) (to_z w (of_z w z)) ≡ true → to_z w (of_z w z) ≡ pos (mag z)
  as_magnitude (pos k) f h = to_z-of_z w (pos k) f
  as_magnitude (negsuc k) f h = absurd (false≢true (rw (to_z-of_z w (negsuc k) f) at h))

  as_bits : (n : ℕ) (z : ℤ) → SFits w z → le_z (pos 0) (to_z w (of_z w z)) ≡ true → mag z ≡ twos_bits n z
  unfolding twos_bits
  as_bits n (pos k) f h = refl
  as_bits n (negsuc k) f h = absurd (false≢true (rw (to_z-of_z w (negsuc k) f) at h))

  -- negative: the complement
  twice : (b k : ℕ) → k < b → b - 1 - (b - suc k) ≡ k
  twice b k h = omega arith

  passes : (k : ℕ) → leb 0 k ≡ false → ⊥
  passes k h = omega (arith, leb-false 0 k h)

  as_complement : (z : ℤ) → SFits w z → le_z (pos 0) (to_z w (of_z w z)) ≡ false →
      to_z w (2 ^ bits w - 1 - of_z w z) ≡ pos (mag z)
  as_complement (pos k) f h = absurd (passes k (rw (to_z-of_z w (pos k) f) at h))
  as_complement (negsuc k) f h = rw (twice (2 ^ bits w) k (half_full w f.sfits)) (to_z_pos w k f.sfits)

  complement_bits : (n : ℕ) (z : ℤ) → SFits w z → le_z (pos 0) (to_z w (of_z w z)) ≡ false →
      256 ^ n - 1 - mag z ≡ twos_bits n z
  unfolding twos_bits
  complement_bits n (pos k) f h = absurd (passes k (rw (to_z-of_z w (pos k) f) at h))
  complement_bits n (negsuc k) f h = refl

module _ (w : Width) (z : ℤ) (f : SFits w z) where
  module _ (h : le_z (pos 0) (to_z w (of_z w z)) ≡ true) where
    -- not negative: it is a number, its magnitude, and what n bytes hold for it
    pub not_negative : T (non_neg (to_z w (of_z w z)))
    not_negative = rw (as_magnitude w z f h) tt

    pub number_fits : (u : Width) → T (leb (2 ^ hbits w) (2 ^ bits u)) → Fits u (nat_abs (to_z w (of_z w z)))
    number_fits u t = rw (as_magnitude w z f h) (record { fits = lt_of_lt_of_le f.sfits (leb→le _ _ t) })

    pub number_magnitude : nat_abs (to_z w (of_z w z)) ≡ mag z
    number_magnitude = ap nat_abs (as_magnitude w z f h)

    pub number_bits : (n : ℕ) → nat_abs (to_z w (of_z w z)) ≡ twos_bits n z
    number_bits n = number_magnitude ∙ as_bits w n z f h

    pub number_below : (n : ℕ) → T (leb (2 ^ hbits w) (256 ^ n)) → nat_abs (to_z w (of_z w z)) < 256 ^ n
    number_below n t = rw number_magnitude (lt_of_lt_of_le f.sfits (leb→le _ _ t))

  module _ (h : le_z (pos 0) (to_z w (of_z w z)) ≡ false) where
    -- negative: its complement is, and n bytes hold what that is less than all ones
    pub complement_not_negative : T (non_neg (to_z w (2 ^ bits w - 1 - of_z w z)))
    complement_not_negative = rw (as_complement w z f h) tt

    pub complement_fits : (u : Width) → T (leb (2 ^ hbits w) (2 ^ bits u)) →
        Fits u (nat_abs (to_z w (2 ^ bits w - 1 - of_z w z)))
    complement_fits u t = rw (as_complement w z f h) (record { fits = lt_of_lt_of_le f.sfits (leb→le _ _ t) })

    pub complement_magnitude : nat_abs (to_z w (2 ^ bits w - 1 - of_z w z)) ≡ mag z
    complement_magnitude = ap nat_abs (as_complement w z f h)

    pub complement_room : (all : ℕ) → T (leb (2 ^ hbits w) (suc all)) →
        nat_abs (to_z w (2 ^ bits w - 1 - of_z w z)) ≤ all
    complement_room all t =
        let m : mag z < 2 ^ hbits w = f.sfits in
        let l : 2 ^ hbits w ≤ suc all = leb→le (2 ^ hbits w) (suc all) t in
        rw complement_magnitude (omega arith)

    module _ (n all : ℕ) (e : all ≡ 256 ^ n - 1) where
      pub less_complement : all - nat_abs (to_z w (2 ^ bits w - 1 - of_z w z)) ≡ twos_bits n z
      less_complement = rw (e, complement_magnitude) (complement_bits w n z f h)

      pub less_complement_below : all - nat_abs (to_z w (2 ^ bits w - 1 - of_z w z)) < 256 ^ n
      less_complement_below = rw e (omega (arith, byte_pow_pos n))

less_one : (a b : ℕ) → a - 1 - b ≡ a - suc b
less_one a b = omega arith

-- n bytes that hold v: below the half the value is v, and from the half on the complement of what v is less than all
-- ones
module _ (w : Width) (n v : ℕ) (0<n : 0 < n) (t : T (leb (256 ^ n / 2) (2 ^ hbits w))) where
  most : 256 ^ n / 2 ≤ 2 ^ hbits w
  most = leb→le (256 ^ n / 2) (2 ^ hbits w) t

  pub below_half : v < 256 ^ n / 2 → to_z w v ≡ twos n v
  below_half h = to_z_pos w v (lt_of_lt_of_le h most) ∙ sym (twos_low n v h)

  pub from-half : (full all : ℕ) → full ≡ 2 ^ bits w - 1 → all ≡ 256 ^ n - 1 → 256 ^ n / 2 ≤ v →
      to_z w (full - (all - v)) ≡ twos n v
  from-half full all f a h =
      let fits : 256 ^ n / 2 ≤ 2 ^ hbits w = most in
      let small : 256 ^ n - 1 - v < 2 ^ hbits w = omega (arith, even n 0<n, byte_pow_pos n) in
      let complement = ap (to_z w) (less_one (2 ^ bits w) (256 ^ n - 1 - v)) ∙ to_z-neg w (256 ^ n - 1 - v) small in
      rw (f, a) (complement ∙ sym (twos_high n v h))
