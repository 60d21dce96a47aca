-- A finite number in a format's smallest values, over the count p of fraction bits: its fields can be read off it
-- (`packed-smallests`), so no two pairs of fields have it (`same_fields`). Then between two formats, of p and of q = p
-- + d fraction bits, whose smallest values are 2 ^ (u + d) apart: what a normal and a subnormal number become in the
-- wider one, and which numbers of the wider one they become (`origin`). Rests on the count of a number's binary digits,
-- `lib.Ieee.size`.
use mathlib.Core.Path.{◌≡◌, refl, sym, ap, ◌∙◌, subst}
use mathlib.Core.Logic.{◌⊎◌, inl, inr}
use Prim.Native.Nat.{ℕ, zero, suc, ◌+◌, ◌-◌, ◌*◌, ◌/◌, ◌%◌, ◌^◌, ◌≤◌, ◌<◌}
use native.Mathlib.Nat.{le_antisymm, le_trans, le_of_eq, lt_of_le_of_lt, lt_of_lt_of_le, lt_of_not-le, lt_irrefl, mul_assoc, mul_comm, add-mul, suc-mul, zero-mul, mul-le-mul_right, mul-div_cancel, add-sub_of_le, eq-zero-or-pos, pow-suc}
use native.Mathlib.Omega.{arith}
use lib.Arith.{digits_div, digits_mod}
use lib.Pow.{pow-add, pow_pos, pow_mono, shl_lt}
use lib.Ieee.{size}
use lib.Ieee.Digits.{size-lt, size-le, size_reaches}
use Rattle.binary.specs.Formats.{smallests}
use Rattle.binary.specs.Conversions.{packed}

-- ---- one format

pub pow_lt_back : (i p : ℕ) → 2 ^ i < 2 ^ p → i < p
pow_lt_back i p h = lt_of_not-le (λ (g : p ≤ i). lt_irrefl (2 ^ i) (lt_of_lt_of_le h (pow_mono g)))

size_exact : (a n : ℕ) → 2 ^ a ≤ n → n < 2 ^ suc a → size n ≡ suc a
size_exact a n lo hi = le_antisymm (size-le n (suc a) hi) (pow_lt_back a (size n) (lt_of_le_of_lt lo (size-lt n)))

packed_low : (p t : ℕ) → t < 2 ^ p → packed p t ≡ t
unfolding packed
packed_low p t h =
    let z : size t - (p + 1) ≡ 0 = omega (arith, size-le t p h) in
    rw z (omega arith)

twice : (p : ℕ) → 2 ^ suc p ≡ 2 ^ p + 2 ^ p
twice p = rw (pow-suc 2 p) (omega arith)

packed_high : (p x t : ℕ) → t < 2 ^ p → packed p ((2 ^ p + t) * 2 ^ x) ≡ suc x * 2 ^ p + t
unfolding packed
packed_high p x t h =
    let n = (2 ^ p + t) * 2 ^ x in
    let lo : 2 ^ (p + x) ≤ n = le_trans (le_of_eq (pow-add 2 p x)) (mul-le-mul_right (2 ^ x) (omega arith)) in
    let top : 2 ^ p + t < 2 ^ suc p = omega (arith, twice p) in
    let hi : n < 2 ^ suc (p + x) = subst (λ (k : ℕ). n < 2 ^ k) (omega arith) (shl_lt (suc p) x top) in
    let z : size n - (p + 1) ≡ x = omega (arith, size_exact (p + x) n lo hi) in
    rw (z, mul-div_cancel (2 ^ p + t) (pow_pos x), suc-mul x (2 ^ p)) (omega arith)

-- the fields of a number that is counted in smallest values
pub packed-smallests : (p e t : ℕ) → t < 2 ^ p → packed p (smallests p e t) ≡ e * 2 ^ p + t
unfolding smallests
packed-smallests p zero t h = packed_low p t h ∙ omega arith
packed-smallests p (suc x) t h = packed_high p x t h

-- a high part and a low part below the weight are known from the number that they make
pub same_parts : (c e t e' t' : ℕ) → t < c → t' < c → e * c + t ≡ e' * c + t' → (e ≡ e') × (t ≡ t')
same_parts c e t e' t' h h' q = (
  sym (digits_div e h) ∙ ap (λ (x : ℕ). x / c) q ∙ digits_div e' h',
  sym (digits_mod e h) ∙ ap (λ (x : ℕ). x % c) q ∙ digits_mod e' h',
)

pub same_fields : (p e t e' t' : ℕ) → t < 2 ^ p → t' < 2 ^ p → smallests p e t ≡ smallests p e' t' → (e ≡ e') × (t ≡ t')
same_fields p e t e' t' h h' q =
    same_parts (2 ^ p) e t e' t' h h' (sym (packed-smallests p e t h) ∙ ap (packed p) q ∙ packed-smallests p e' t' h')

-- ---- two formats

regroup : (a x u d : ℕ) → a * x * (u * d) ≡ a * d * (x * u)
regroup a x u d =
    mul_assoc a x (u * d)
    ∙ ap (λ (y : ℕ). a * y) (sym (mul_assoc x u d) ∙ mul_comm (x * u) d)
    ∙ sym (mul_assoc a d (x * u))

-- a normal number: u more in the exponent's field, d zeros more in the fraction
pub lift_normal : (p d q u x t : ℕ) → q ≡ p + d →
    smallests p (suc x) t * 2 ^ (u + d) ≡ smallests q (suc (x + u)) (t * 2 ^ d)
unfolding smallests
lift_normal p d q u x t e =
    rw (e, pow-add 2 p d, pow-add 2 u d, pow-add 2 x u)
    (regroup (2 ^ p + t) (2 ^ x) (2 ^ u) (2 ^ d) ∙ ap (λ (y : ℕ). y * (2 ^ x * 2 ^ u)) (add-mul (2 ^ p) t (2 ^ d)))

-- a fraction that is moved up by j until its leading digit is where a normal number has it
pub raised_le : (p d q j t : ℕ) → q ≡ p + d → 2 ^ p ≤ t * 2 ^ j → 2 ^ q ≤ t * 2 ^ (j + d)
raised_le p d q j t e h =
    rw (e, pow-add 2 p d, pow-add 2 j d)
    (le_trans (mul-le-mul_right (2 ^ d) h) (le_of_eq (mul_assoc t (2 ^ j) (2 ^ d))))

pub lift_subnormal : (p d q u j t : ℕ) → q ≡ p + d → j ≤ u → 2 ^ p ≤ t * 2 ^ j
    → smallests p 0 t * 2 ^ (u + d) ≡ smallests q (suc (u - j)) (t * 2 ^ (j + d) - 2 ^ q)
unfolding smallests
lift_subnormal p d q u j t e k h =
    let all : u + d ≡ j + d + (u - j) = omega arith in
    rw (add-sub_of_le (raised_le p d q j t e h), all, pow-add 2 (j + d) (u - j))
    (sym (mul_assoc t (2 ^ (j + d)) (2 ^ (u - j))))

-- the fraction that it then has is below the leading digit
pub raised_lt : (p d q j t : ℕ) → q ≡ p + d → 2 ^ p ≤ t * 2 ^ j → t * 2 ^ j < 2 ^ suc p →
    t * 2 ^ (j + d) - 2 ^ q < 2 ^ q
raised_lt p d q j t e h l =
    let r : t * 2 ^ (j + d) ≡ t * 2 ^ j * 2 ^ d = ap (λ (x : ℕ). t * x) (pow-add 2 j d)
    ∙ sym (mul_assoc t (2 ^ j) (2 ^ d)) in
    let s : t * 2 ^ j * 2 ^ d < 2 ^ (suc p + d) = shl_lt (suc p) d l in
    let k : suc p + d ≡ suc q = omega arith in
    let s' : t * 2 ^ j * 2 ^ d < 2 ^ suc q = subst (λ (x : ℕ). t * 2 ^ j * 2 ^ d < 2 ^ x) k s in
    omega (arith, twice q, raised_le p d q j t e h)

-- how far a fraction is to be moved up
pub up_to : (p t : ℕ) → 0 < t → t < 2 ^ p → (j : ℕ) × (1 ≤ j) × (j ≤ p) × (2 ^ p ≤ t * 2 ^ j) × (t * 2 ^ j < 2 ^ suc p)
up_to p t h l =
    let z = size t in
    let a : z ≤ p = size-le t p l in
    let b : 0 < z = pow_lt_back 0 z (lt_of_le_of_lt h (size-lt t)) in
    let j = suc p - z in
    let low : 2 ^ (z - 1) ≤ t = size_reaches t (z - 1) (omega arith) in
    let p-is : p ≡ z - 1 + j = omega arith in
    let s-is : z + j ≡ suc p = omega arith in (
      j,
      omega arith,
      omega arith,
      le_trans (le_of_eq (ap (λ (x : ℕ). 2 ^ x) p-is ∙ pow-add 2 (z - 1) j)) (mul-le-mul_right (2 ^ j) low),
      subst (λ (x : ℕ). t * 2 ^ j < 2 ^ x) s-is (shl_lt z j (size-lt t)),
    )

-- where a number (e, t) of the wider format comes from, if it is the number (e', t') of the narrower one
pub data Origin (p d q u e' t' e t : ℕ) : Type 0 where
  from_zero : e' ≡ 0 → t' ≡ 0 → e ≡ 0 → t ≡ 0 → Origin p d q u e' t' e t
  from_subnormal : e' ≡ 0 → (j : ℕ) → 1 ≤ j → j ≤ p → e + j ≡ suc u → 2 ^ q + t ≡ t' * 2 ^ (j + d) →
      Origin p d q u e' t' e t
  from_normal : 1 ≤ e' → e ≡ e' + u → t ≡ t' * 2 ^ d → Origin p d q u e' t' e t

low_is : (p t : ℕ) → smallests p 0 t ≡ t
unfolding smallests
low_is p t = refl

pub origin : (p d q u e' t' e t : ℕ) → q ≡ p + d → p ≤ u → t' < 2 ^ p → t < 2 ^ q
    → smallests p e' t' * 2 ^ (u + d) ≡ smallests q e t → Origin p d q u e' t' e t
origin p d q u (suc x) t' e t k deep h' h same =
    let low : t' * 2 ^ d < 2 ^ q = subst (λ (y : ℕ). t' * 2 ^ d < 2 ^ y) (sym k) (shl_lt p d h') in
    let f = same_fields q e t (suc (x + u)) (t' * 2 ^ d) h low (sym same ∙ lift_normal p d q u x t' k) in
    from_normal (omega arith) (omega (arith, f.0)) f.1
origin p d q u zero t' e t k deep h' h same = go (eq-zero-or-pos t')
  where
    go : (t' ≡ 0) ⊎ (0 < t') → Origin p d q u 0 t' e t
    go (inl z) =
        let f = same_fields q e t 0 0 h (pow_pos q)
        (sym same ∙ ap (λ (y : ℕ). y * 2 ^ (u + d)) (low_is p t' ∙ z) ∙ zero-mul (2 ^ (u + d)) ∙ sym (low_is q 0))
        in
        from_zero refl z f.0 f.1
    go (inr n) =
        let m = up_to p t' n h' in
        let j = m.0 in
        let J : j ≤ u = omega arith in
        let f = same_fields q e t (suc (u - j)) (t' * 2 ^ (j + d) - 2 ^ q) h (raised_lt p d q j t' k m.3 m.4)
        (sym same ∙ lift_subnormal p d q u j t' k J m.3) in
        let le : 2 ^ q ≤ t' * 2 ^ (j + d) = raised_le p d q j t' k m.3 in
        from_subnormal refl j m.1 m.2 (omega (arith, f.0)) (omega (arith, f.1))
