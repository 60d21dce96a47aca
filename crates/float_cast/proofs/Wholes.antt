-- The whole number of a binary64 magnitude: where its exponent puts the last digit. `S` is the significand, `x` the
-- exponent's field less 1, so that the magnitude is S * 2 ^ x.
use Rattle.std.specs.Prelude.{Option, Some, None}
use Rattle.std.specs.Bool.{then_some}
use mathlib.Core.Path.{◌≡◌, refl, sym, ap, ◌∙◌}
use mathlib.Core.Bool.{Bool, true, false}
use Prim.Native.Nat.{ℕ, zero, suc, ◌+◌, ◌-◌, ◌*◌, ◌/◌, ◌%◌, ◌^◌, ◌≤◌, ◌<◌}
use native.Mathlib.Nat.{mul-one, mul_assoc, mul-pos, mul-mod_left, mul-div_cancel, mul-div-mul_right, div-add-mod'}
use native.Mathlib.Nat.{mod-eq_of_lt, eq_of_mul-eq-mul_right, zero-mul, add-zero, le_trans, le_of_eq, lt_of_lt_of_le}
use native.Mathlib.Nat.{mul-le-mul_right}
use native.Mathlib.Omega.{arith}
use lib.Arith.{mod-mul}
use lib.Pow.{pow-add, pow_pos, pow_mono, shl_lt, shl_exact, shr_le}
use borrow.Author.Rules.{rules}
use lib.Dec.{eqb}
use borrow.Author.Tests.{eq-eqb, ne_eqb, eqb-true, eqb-false}
use Rattle.binary.specs.Formats.{double, smallests, magnitude}
use Rattle.binary.proofs.Steps.{shift_back}
use Rattle.float_cast.specs.Integral.{one, least}
use Rattle.float_cast.specs.Steps.{most, whole_of}
use Rattle.float_cast.proofs.Clamps.{least_left, least_right}

-- ---- by the remainder and the quotient

pub whole_number : (m n : ℕ) → m % one ≡ 0 → m / one ≡ n → whole_of m ≡ Some (least n most)
unfolding whole_of
whole_number m n z q = rw (eq-eqb (m % one) 0 z) (ap (λ (x : ℕ). Some (least x most)) q)

pub whole_lost : (m : ℕ) → (m % one ≡ 0 → ⊥) → whole_of m ≡ None
unfolding whole_of
whole_lost m z = rw (ne_eqb (m % one) 0 z)

-- ---- a magnitude of S * 2 ^ x

-- the digits that stand below 1
module _ (S x d p : ℕ) (parts : d + x ≡ p) where
  split : 2 ^ p ≡ 2 ^ d * 2 ^ x
  split = ap (λ (n : ℕ). 2 ^ n) (sym parts) ∙ pow-add 2 d x

  pub low_rest : S * 2 ^ x % 2 ^ p ≡ S % 2 ^ d * 2 ^ x
  low_rest =
      ap (λ (n : ℕ). S * 2 ^ x % n) split
      ∙ mod-mul (S * 2 ^ x) (pow_pos d) (pow_pos x)
      ∙ ap (λ (n : ℕ). n % 2 ^ d * 2 ^ x + S * 2 ^ x % 2 ^ x) (mul-div_cancel S (pow_pos x))
      ∙ ap (λ (n : ℕ). S % 2 ^ d * 2 ^ x + n) (mul-mod_left S (2 ^ x))
      ∙ add-zero (S % 2 ^ d * 2 ^ x)

  pub low_quotient : S * 2 ^ x / 2 ^ p ≡ S / 2 ^ d
  low_quotient = ap (λ (n : ℕ). S * 2 ^ x / n) split ∙ mul-div-mul_right S (2 ^ d) (pow_pos x)

-- the digits all stand from 1 on
module _ (S x y p : ℕ) (parts : x ≡ y + p) where
  high_is : S * 2 ^ x ≡ S * 2 ^ y * 2 ^ p
  high_is = ap (λ (n : ℕ). S * n) (ap (λ (n : ℕ). 2 ^ n) parts ∙ pow-add 2 y p) ∙ sym (mul_assoc S (2 ^ y) (2 ^ p))

  pub high_rest : S * 2 ^ x % 2 ^ p ≡ 0
  high_rest = ap (λ (n : ℕ). n % 2 ^ p) high_is ∙ mul-mod_left (S * 2 ^ y) (2 ^ p)

  pub high_quotient : S * 2 ^ x / 2 ^ p ≡ S * 2 ^ y
  high_quotient = ap (λ (n : ℕ). n / 2 ^ p) high_is ∙ mul-div_cancel (S * 2 ^ y) (pow_pos p)

-- no digit stands from 1 on
below_one : (S x p : ℕ) → S < 2 ^ 53 → 53 + x ≤ p → S * 2 ^ x < 2 ^ p
below_one S x p h l = lt_of_lt_of_le (shl_lt 53 x h) (pow_mono l)

some_left : (a b p : ℕ) → 0 < a → 0 < b → a * b < p → a * b % p ≡ 0 → ⊥
some_left a b p h k l z = clash (a * b) (mul-pos h k) (sym (mod-eq_of_lt l) ∙ z)
  where
    clash : (n : ℕ) → 0 < n → n ≡ 0 → ⊥
    clash n h e = omega arith

-- a remainder of 0
no_rest : (n c : ℕ) → n % c ≡ 0 → n / c * c ≡ n
no_rest n c h = sym (add-zero (n / c * c)) ∙ ap (λ (x : ℕ). n / c * c + x) (sym h) ∙ div-add-mod' n c

rest_none : (n c : ℕ) → n / c * c ≡ n → n % c ≡ 0
rest_none n c h = take_off (n / c * c) (n % c) n h (div-add-mod' n c)
  where
    take_off : (a b n : ℕ) → a ≡ n → a + b ≡ n → b ≡ 0
    take_off a b n p q = omega arith

-- ---- the fields of a binary64 number

normal : (e t : ℕ) → 0 < e → magnitude double e t ≡ (2 ^ 52 + t) * 2 ^ (e - 1)
unfolding smallests
normal zero t h = absurd (none h)
  where
    none : 0 < 0 → ⊥
    none h = omega arith
normal (suc x) t h = mul-one ((2 ^ 52 + t) * 2 ^ x) ∙ ap (λ (n : ℕ). (2 ^ 52 + t) * 2 ^ n) (sym (less x))
  where
    less : (x : ℕ) → suc x - 1 ≡ x
    less x = omega arith

module _ (e t : ℕ) (some : 0 < e) (T : t < 2 ^ 52) where
  s_lt : 2 ^ 52 + t < 2 ^ 53
  s_lt = omega arith

  s_pos : 0 < 2 ^ 52 + t
  s_pos = omega arith

  pub under_one : e < 1023 → None ≡ whole_of (magnitude double e t)
  under_one h =
      sym (ap whole_of (normal e t some)
      ∙ whole_lost ((2 ^ 52 + t) * 2 ^ (e - 1))
      (some_left (2 ^ 52 + t) (2 ^ (e - 1)) (2 ^ 1074) s_pos (pow_pos (e - 1))
      (below_one (2 ^ 52 + t) (e - 1) 1074 s_lt (omega arith))))

  module _ (h : e < 1075) where
    parts : 1075 - e + (e - 1) ≡ 1074
    parts = omega arith

    -- shifted down and back up, in 64 bits
    back : (2 ^ 52 + t) / 2 ^ (1075 - e) * 2 ^ (1075 - e) % 2 ^ 64 ≡ (2 ^ 52 + t) / 2 ^ (1075 - e) * 2 ^ (1075 - e)
    back = shift_back (2 ^ 52 + t) (1075 - e) 64 (omega arith)

    digits_whole : (2 ^ 52 + t) / 2 ^ (1075 - e) * 2 ^ (1075 - e) % 2 ^ 64 ≡ 2 ^ 52 + t →
        Some ((2 ^ 52 + t) / 2 ^ (1075 - e)) ≡ whole_of (magnitude double e t)
    digits_whole s =
        let d = 1075 - e in
        let w : (2 ^ 52 + t) / 2 ^ d * 2 ^ d ≡ 2 ^ 52 + t = sym back ∙ s in
        let small : (2 ^ 52 + t) / 2 ^ d < most = small_quotient ((2 ^ 52 + t) / 2 ^ d) (shr_le (2 ^ 52 + t) d) in
        ap Some (least_left ((2 ^ 52 + t) / 2 ^ d) most small)
        ∙ sym (ap whole_of (normal e t some)
        ∙ whole_number ((2 ^ 52 + t) * 2 ^ (e - 1)) ((2 ^ 52 + t) / 2 ^ d)
        (low_rest (2 ^ 52 + t) (e - 1) d 1074 parts ∙ ap (λ (n : ℕ). n * 2 ^ (e - 1)) (rest_none (2 ^ 52 + t) (2 ^ d) w)
        ∙ zero-mul (2 ^ (e - 1)))
        (low_quotient (2 ^ 52 + t) (e - 1) d 1074 parts))
      where
        small_quotient : (q : ℕ) → q ≤ 2 ^ 52 + t → q < most
        small_quotient q l = omega arith

    digits_lost : ((2 ^ 52 + t) / 2 ^ (1075 - e) * 2 ^ (1075 - e) % 2 ^ 64 ≡ 2 ^ 52 + t → ⊥) →
        None ≡ whole_of (magnitude double e t)
    digits_lost w =
        let d = 1075 - e in
        sym (ap whole_of (normal e t some)
        ∙ whole_lost ((2 ^ 52 + t) * 2 ^ (e - 1))
        (λ z. w (back ∙ no_rest (2 ^ 52 + t) (2 ^ d)
        (eq_of_mul-eq-mul_right (2 ^ (e - 1)) (pow_pos (e - 1)) ((2 ^ 52 + t) % 2 ^ d) 0
        (sym (low_rest (2 ^ 52 + t) (e - 1) d 1074 parts) ∙ z ∙ sym (zero-mul (2 ^ (e - 1))))))))

    -- by the test that no digit was lost
    pub digits_end : (o : Option ℕ) →
        o ≡ then_some (eqb ((2 ^ 52 + t) / 2 ^ (1075 - e) * 2 ^ (1075 - e) % 2 ^ 64) (2 ^ 52 + t)) ((2 ^ 52 + t) / 2 ^ (1075 - e)) →
        o ≡ whole_of (magnitude double e t)
    digits_end o q = q ∙ go (eqb ((2 ^ 52 + t) / 2 ^ (1075 - e) * 2 ^ (1075 - e) % 2 ^ 64) (2 ^ 52 + t)) refl
      where
        go : (found : Bool) → eqb ((2 ^ 52 + t) / 2 ^ (1075 - e) * 2 ^ (1075 - e) % 2 ^ 64) (2 ^ 52 + t) ≡ found →
            then_some found ((2 ^ 52 + t) / 2 ^ (1075 - e)) ≡ whole_of (magnitude double e t)
        go true f = digits_whole (eqb-true _ _ f)
        go false f = digits_lost (eqb-false _ _ f)

  module _ (h : 1075 ≤ e) where
    raised : e - 1 ≡ e - 1075 + 1074
    raised = omega arith

    from_one : whole_of (magnitude double e t) ≡ Some (least ((2 ^ 52 + t) * 2 ^ (e - 1075)) most)
    from_one =
        ap whole_of (normal e t some)
        ∙ whole_number ((2 ^ 52 + t) * 2 ^ (e - 1)) ((2 ^ 52 + t) * 2 ^ (e - 1075))
        (high_rest (2 ^ 52 + t) (e - 1) (e - 1075) 1074 raised)
        (high_quotient (2 ^ 52 + t) (e - 1) (e - 1075) 1074 raised)

    pub moved_up : e < 1086 → Some ((2 ^ 52 + t) * 2 ^ (e - 1075) % 2 ^ 64) ≡ whole_of (magnitude double e t)
    moved_up l =
        ap Some (shl_exact 53 (e - 1075) 64 s_lt (omega arith)
        ∙ least_left ((2 ^ 52 + t) * 2 ^ (e - 1075)) most (below_one (2 ^ 52 + t) (e - 1075) 63 s_lt (omega arith)))
        ∙ sym from_one

    pub too_large : 1086 ≤ e → Some most ≡ whole_of (magnitude double e t)
    too_large l =
        let far : 2 ^ 63 ≤ (2 ^ 52 + t) * 2 ^ (e - 1075) =
        le_trans (pow_mono {i = 63} {j = 52 + (e - 1075)} (omega arith))
        (le_trans (le_of_eq (pow-add 2 52 (e - 1075))) (mul-le-mul_right (2 ^ (e - 1075)) (omega arith))) in
        ap Some (least_right ((2 ^ 52 + t) * 2 ^ (e - 1075)) most far) ∙ sym from_one

pub ruleset whole_ends = (under_one, digits_end, moved_up, too_large, rules)

-- ---- a magnitude below 2 ^ (51 + E): the exponent's field is below E

module _ (t E : ℕ) (T : t < 2 ^ 52) (some : 0 < E) where
  pub field_below : (e : ℕ) → e < E → magnitude double e t < 2 ^ (51 + E)
  unfolding smallests
  field_below zero h = rw (mul-one t) (lt_of_lt_of_le T (pow_mono {i = 52} {j = 51 + E} (omega arith)))
  field_below (suc x) h =
      rw (mul-one ((2 ^ 52 + t) * 2 ^ x)) (below_one (2 ^ 52 + t) x (51 + E) (omega arith) (omega arith))

  pub field_above : (e : ℕ) → E ≤ e → 2 ^ (51 + E) ≤ magnitude double e t
  unfolding smallests
  field_above zero h = absurd (none E some h)
    where
      none : (E : ℕ) → 0 < E → E ≤ 0 → ⊥
      none E h k = omega arith
  field_above (suc x) h =
      rw (mul-one ((2 ^ 52 + t) * 2 ^ x))
      (le_trans (pow_mono {i = 51 + E} {j = 52 + x} (omega arith))
      (le_trans (le_of_eq (pow-add 2 52 x)) (mul-le-mul_right (2 ^ x) (omega arith))))
