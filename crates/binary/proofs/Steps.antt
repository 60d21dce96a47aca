-- What the branches of the code come to, once for every pair of formats: each lemma takes a branch's tests and gives
-- what `narrowed` or `widened` answers there.
use Rattle.std.specs.Prelude.{Some, None}
use mathlib.Core.Path.{◌≡◌, refl, sym, ap, ◌∙◌, subst}
use mathlib.Core.Logic.{◌⊎◌, inl, inr}
use mathlib.Core.Bool.{Bool, true, false, cond}
use Prim.Native.Nat.{ℕ, suc, ◌+◌, ◌-◌, ◌*◌, ◌/◌, ◌%◌, ◌^◌, ◌≤◌, ◌<◌}
use native.Mathlib.Nat.{eq-or-lt_of_le, suc-mul, le_of_lt, lt_of_le_of_lt, mul-le-mul_right, pow-suc, le_of_eq}
use native.Mathlib.Nat.{le_trans, le_of_mul-le-mul_right, mul_assoc, mul-mod_left, div-add-mod', add-zero}
use native.Mathlib.Nat.{lt_of_lt_of_le, div-mul-le_self, mod-eq_of_lt, mul-div_cancel, zero-add, zero-mul}
use native.Mathlib.Omega.{arith}
use lib.Arith.{digits_div}
use lib.Dec.{leb}
use lib.Count.{count_leading_zeros, leading_top}
use lib.Pow.{pow-add, pow_pos, pow_mono, shl_lt, shr_lt}
use borrow.Author.Tests.{leb-true, leb-false}
use Rattle.binary.specs.Formats.{Layout, leading, sign_weight, all_ones, negative, exponent, fraction, magnitude}
use Rattle.binary.specs.Conversions.{with_sign, candidate, narrowed}
use Rattle.binary.proofs.Smallests.{pow_lt_back, raised_le, raised_lt, Origin, from_zero, from_subnormal}
use Rattle.binary.proofs.Smallests.{from_normal}
use Rattle.binary.proofs.Patterns.{rest_lt, exponent_le, fraction_lt, candidate_is}
use Rattle.binary.proofs.Narrowing.{gives, loses, loses_nan}
use Rattle.binary.proofs.Widths.{Widens, kept_normal, kept_subnormal, kept_zero, lifted, comes_from}

-- ---- the sign, moved from its weight in one format to its weight in another

pub sign_is : (c w b : ℕ) → 0 < c → b < 2 * c → b / c * w ≡ cond (leb c b) w 0
sign_is c w b C h = go (leb c b) refl
  where
    less : c ≤ b → b - c < c
    less l = omega arith

    one : c ≤ b → b ≡ 1 * c + (b - c)
    one l = omega arith

    none : b ≡ 0 * c + b
    none = omega arith

    unit_mul : 1 * w ≡ w
    unit_mul = omega arith

    go : (t : Bool) → leb c b ≡ t → b / c * w ≡ cond (leb c b) w 0
    go true e =
        ap (λ (x : ℕ). x / c * w) (one (leb-true c b e)) ∙ ap (λ (x : ℕ). x * w) (digits_div 1 (less (leb-true c b e)))
        ∙ unit_mul ∙ sym (ap (λ (t : Bool). cond t w 0) e)
    go false e =
        ap (λ (x : ℕ). x / c * w) none ∙ ap (λ (x : ℕ). x * w) (digits_div 0 (leb-false c b e)) ∙ zero-mul w
        ∙ sym (ap (λ (t : Bool). cond t w 0) e)

-- ---- narrowing

whole : (n c : ℕ) → n % c ≡ 0 → n / c * c ≡ n
whole n c h = sym (add-zero (n / c * c)) ∙ ap (λ (x : ℕ). n / c * c + x) (sym h) ∙ div-add-mod' n c

back_up : (d e u m : ℕ) → d + e ≡ suc u + m → 0 < e → e ≤ u → suc (u - (d - m)) ≡ e
back_up d e u m q p h = omega arith

apart : (d e u m : ℕ) → d + e ≡ suc u + m → e ≤ u → d ≡ d - m + m
apart d e u m q h = omega arith

moved : (d e u m : ℕ) → d + e ≡ suc u + m → 0 < e → d - m ≤ u
moved d e u m q h = omega arith

past_zero : (e u p : ℕ) → u < e + p → p ≤ u → 0 < e
past_zero e u p h k = omega arith

take_off : (a b : ℕ) → a + b - a ≡ b
take_off a b = omega arith

-- the digits of a normal number, the leading one among them
abbrev pub significand : Layout → ℕ → ℕ
significand f b = leading f + fraction f b

module _ {narrow wide : Layout} {lift more : ℕ} (W : Widens narrow wide lift more) (b : ℕ) where
  fraction_narrow : fraction wide b / 2 ^ more < leading narrow
  fraction_narrow =
      shr_lt narrow.fraction_bits more
      (subst (λ (x : ℕ). fraction wide b < 2 ^ x) W.fractions (fraction_lt wide b))

  -- a normal number of the narrower format: the digits that it drops are zeros
  pub narrow_normal : lift < exponent wide b → exponent wide b < all_ones narrow + lift → fraction wide b % 2 ^ more ≡ 0
      → narrowed wide narrow b ≡ Some
      (with_sign narrow (negative wide b) ((exponent wide b - lift) * leading narrow + fraction wide b / 2 ^ more))
  narrow_normal lo hi z =
      let e = exponent wide b - lift in
      let t = fraction wide b / 2 ^ more in
      let same : e + lift ≡ exponent wide b = omega arith in
      gives wide narrow b e t (omega (arith, W.high)) (omega arith) fraction_narrow
      (kept_normal W e t (omega arith) ∙ ap (λ (x : ℕ). magnitude wide x (t * 2 ^ more)) same
      ∙ ap (magnitude wide (exponent wide b)) (whole (fraction wide b) (2 ^ more) z))

  -- where the number can come from in the narrower format
  abbrev From : ℕ → ℕ → Type 0
  From e t = Origin narrow.fraction_bits more wide.fraction_bits lift e t (exponent wide b) (fraction wide b)

  -- no number of the narrower format, since wherever one comes from the tests say otherwise
  narrow_none : exponent wide b < all_ones wide
      → ((e t : ℕ) → e < all_ones narrow → From e t → ⊥)
      → narrowed wide narrow b ≡ None
  narrow_none F none =
      loses wide narrow b F
      (λ e t E T same. none e t E (comes_from W e t (exponent wide b) (fraction wide b) T (fraction_lt wide b) same))

  above : (e j u : ℕ) → u < e → 1 ≤ j → e + j ≡ suc u → ⊥
  above e j u h k q = omega arith

  above_zero : (e u : ℕ) → u < e → e ≡ 0 → ⊥
  above_zero e u h q = omega arith

  pub normal_lost : lift < exponent wide b → exponent wide b < all_ones wide → (fraction wide b % 2 ^ more ≡ 0 → ⊥) →
      narrowed wide narrow b ≡ None
  normal_lost lo F n = narrow_none F go
    where
      go : (e t : ℕ) → e < all_ones narrow → From e t → ⊥
      go e t E (from_zero a z x y) = above_zero (exponent wide b) lift lo x
      go e t E (from_subnormal a j j1 jp x y) = above (exponent wide b) j lift lo j1 x
      go e t E (from_normal a x y) = n (ap (λ (k : ℕ). k % 2 ^ more) y ∙ mul-mod_left t (2 ^ more))

  -- too large
  high_lost : all_ones narrow + lift ≤ exponent wide b → exponent wide b < all_ones wide → narrowed wide narrow b ≡ None
  high_lost hi F = narrow_none F go
    where
      lo : lift < exponent wide b
      lo = omega (arith, W.some)

      under : (e : ℕ) → e < all_ones narrow → exponent wide b ≡ e + lift → ⊥
      under e E x = omega arith

      go : (e t : ℕ) → e < all_ones narrow → From e t → ⊥
      go e t E (from_zero a z x y) = above_zero (exponent wide b) lift lo x
      go e t E (from_subnormal a j j1 jp x y) = above (exponent wide b) j lift lo j1 x
      go e t E (from_normal a x y) = under e E x

  -- too large, or a NaN
  pub top_lost : all_ones narrow + lift ≤ exponent wide b → (exponent wide b ≡ all_ones wide → fraction wide b ≡ 0 → ⊥) →
      narrowed wide narrow b ≡ None
  top_lost hi n = go (eq-or-lt_of_le (exponent_le wide b))
    where
      go : (exponent wide b ≡ all_ones wide) ⊎ (exponent wide b < all_ones wide) → narrowed wide narrow b ≡ None
      go (inl e) = loses_nan wide narrow b e (n e)
      go (inr l) = high_lost hi l

  -- A subnormal number of the narrower format: of the significand, `down` digits are dropped, and they are zeros.
  module _ (down : ℕ) (is : down + exponent wide b ≡ suc lift + more) (below : exponent wide b ≤ lift)
      (near : lift < exponent wide b + narrow.fraction_bits) where
    finite_here : exponent wide b < all_ones wide
    finite_here = omega (arith, W.high, W.some)

    pub kept_lt : significand wide b / 2 ^ down < leading narrow
    kept_lt =
        let top : significand wide b < 2 ^ suc wide.fraction_bits =
        omega (arith, pow-suc 2 wide.fraction_bits, fraction_lt wide b) in
        shr_lt narrow.fraction_bits down
        (lt_of_lt_of_le top
        (pow_mono {i = suc wide.fraction_bits} {j = narrow.fraction_bits + down} (omega (arith, W.fractions))))

    pub narrow_subnormal : significand wide b / 2 ^ down * 2 ^ down ≡ significand wide b →
        narrowed wide narrow b ≡ Some (with_sign narrow (negative wide b) (significand wide b / 2 ^ down))
    narrow_subnormal z =
        let j = down - more in
        let first : 0 < exponent wide b = past_zero (exponent wide b) lift narrow.fraction_bits near W.deep in
        let t = significand wide b / 2 ^ down in
        let d : down ≡ j + more = apart down (exponent wide b) lift more is below in
        let all : t * 2 ^ (j + more) ≡ significand wide b = ap (λ (x : ℕ). t * 2 ^ x) (sym d) ∙ z in
        let enough : leading narrow ≤ t * 2 ^ j =
        le_of_mul-le-mul_right {k = 2 ^ more}
        (le_trans (le_of_eq (sym (pow-add 2 narrow.fraction_bits more) ∙ ap (λ (x : ℕ). 2 ^ x) (sym W.fractions)))
        (le_trans (omega arith)
        (le_of_eq (sym all ∙ ap (λ (x : ℕ). t * x) (pow-add 2 j more) ∙ sym (mul_assoc t (2 ^ j) (2 ^ more))))))
        (pow_pos more) in
        let e-is : suc (lift - j) ≡ exponent wide b = back_up down (exponent wide b) lift more is first below in
        let t-is : t * 2 ^ (j + more) - leading wide ≡ fraction wide b =
        ap (λ (x : ℕ). x - leading wide) all ∙ take_off (leading wide) (fraction wide b) in
        gives wide narrow b 0 t finite_here W.some kept_lt
        (kept_subnormal W j t (moved down (exponent wide b) lift more is first) enough
        ∙ ap (λ (x : ℕ). magnitude wide x (t * 2 ^ (j + more) - leading wide)) e-is
        ∙ ap (magnitude wide (exponent wide b)) t-is)
        ∙ ap (λ (x : ℕ). Some (with_sign narrow (negative wide b) (x + t))) (zero-mul (leading narrow))
        ∙ ap (λ (x : ℕ). Some (with_sign narrow (negative wide b) x)) (zero-add t)

    pub subnormal_lost : (significand wide b / 2 ^ down * 2 ^ down ≡ significand wide b → ⊥) →
        narrowed wide narrow b ≡ None
    subnormal_lost n = narrow_none finite_here go
      where
        not_zero : exponent wide b ≡ 0 → ⊥
        not_zero q = omega (arith, W.deep)

        down_is : (j : ℕ) → exponent wide b + j ≡ suc lift → j + more ≡ down
        down_is j q = omega arith

        under : (e : ℕ) → 1 ≤ e → exponent wide b ≡ e + lift → ⊥
        under e E x = omega arith

        go : (e t : ℕ) → e < all_ones narrow → From e t → ⊥
        go e t E (from_zero a z x y) = not_zero x
        go e t E (from_subnormal a j j1 jp x y) =
            let s : significand wide b ≡ t * 2 ^ down = y ∙ ap (λ (k : ℕ). t * 2 ^ k) (down_is j x) in
            n
            (ap (λ (k : ℕ). k / 2 ^ down * 2 ^ down) s ∙ ap (λ (k : ℕ). k * 2 ^ down) (mul-div_cancel t (pow_pos down))
            ∙ sym s)
        go e t E (from_normal a x y) = under e a x

  -- too small
  pub low_lost : exponent wide b + narrow.fraction_bits ≤ lift → (exponent wide b ≡ 0 → fraction wide b ≡ 0 → ⊥) →
      narrowed wide narrow b ≡ None
  low_lost lo n = narrow_none (omega (arith, W.high, W.some)) go
    where
      over : (j : ℕ) → j ≤ narrow.fraction_bits → exponent wide b + j ≡ suc lift → ⊥
      over j h q = omega arith

      under : (e : ℕ) → 1 ≤ e → exponent wide b ≡ e + lift → ⊥
      under e E x = omega arith

      go : (e t : ℕ) → e < all_ones narrow → From e t → ⊥
      go e t E (from_zero a z x y) = n x y
      go e t E (from_subnormal a j j1 jp x y) = over j jp x
      go e t E (from_normal a x y) = under e a x

  pub narrow_zero : exponent wide b ≡ 0 → fraction wide b ≡ 0 →
      narrowed wide narrow b ≡ Some (with_sign narrow (negative wide b) 0)
  narrow_zero e z =
      gives wide narrow b 0 0 (omega (arith, W.high, W.some)) W.some (pow_pos narrow.fraction_bits)
      (kept_zero W ∙ ap (λ (x : ℕ). magnitude wide x 0) (sym e) ∙ ap (magnitude wide (exponent wide b)) (sym z))
      ∙ ap (λ (x : ℕ). Some (with_sign narrow (negative wide b) (x + 0))) (zero-mul (leading narrow))

-- ---- widening a subnormal number

-- how far up the leading digit of a fraction has to go, as the machine counts the zeros above it in k digits
abbrev pub ZerosAbove : ℕ → ℕ → ℕ → Type 0
ZerosAbove k p t =
    let j = count_leading_zeros k t - (k - suc p) in
    (k - suc p ≤ count_leading_zeros k t) × (j ≤ p) × (2 ^ p ≤ t * 2 ^ j) × (t * 2 ^ j < 2 ^ suc p)

pub zeros_above : (k p t : ℕ) → p < k → 0 < t → t < 2 ^ p → ZerosAbove k p t
zeros_above k p t K P h =
    let m = leading_top k t P (lt_of_lt_of_le h (pow_mono (le_of_lt K))) in
    let i = m.0 in
    let z = count_leading_zeros k t in
    let j = z - (k - suc p) in
    let i_lt : i < p = pow_lt_back i p (lt_of_le_of_lt m.2 h) in
    let p-is : p ≡ i + j = split k p z i K m.1 i_lt in
    let s-is : suc i + j ≡ suc p = omega arith in (
      count k p z i K m.1 i_lt,
      omega arith,
      le_trans (le_of_eq (ap (λ (x : ℕ). 2 ^ x) p-is ∙ pow-add 2 i j)) (mul-le-mul_right (2 ^ j) m.2),
      subst (λ (x : ℕ). t * 2 ^ j < 2 ^ x) s-is (shl_lt (suc i) j m.3),
    )
  where
    split : (k p z i : ℕ) → p < k → z + suc i ≡ k → i < p → p ≡ i + (z - (k - suc p))
    split k p z i K q h = omega arith

    count : (k p z i : ℕ) → p < k → z + suc i ≡ k → i < p → k - suc p ≤ z
    count k p z i K q h = omega arith

module _ {narrow wide : Layout} {lift more : ℕ} (W : Widens narrow wide lift more) where
  lead : (x l n : ℕ) → l ≤ n → suc x * l + (n - l) ≡ x * l + n
  lead x l n h = rw (suc-mul x l) (omega arith)

  pub raised_is : (j t : ℕ) → j ≤ lift → leading narrow ≤ t * 2 ^ j → t * 2 ^ j < 2 ^ suc narrow.fraction_bits
      → (lift - j) * leading wide + t * 2 ^ (j + more) ≡ candidate wide (magnitude narrow 0 t)
  raised_is j t J lo hi =
      sym (ap (candidate wide) (kept_subnormal W j t J lo)
      ∙ candidate_is wide (suc (lift - j)) (t * 2 ^ (j + more) - leading wide)
      (raised_lt narrow.fraction_bits more wide.fraction_bits j t W.fractions lo hi)
      ∙ lead (lift - j) (leading wide) (t * 2 ^ (j + more))
      (raised_le narrow.fraction_bits more wide.fraction_bits j t W.fractions lo))

  -- the digits after the move, below the next power of two
  pub raised_under : (j t : ℕ) → t * 2 ^ j < 2 ^ suc narrow.fraction_bits →
      t * 2 ^ (j + more) < 2 ^ suc wide.fraction_bits
  raised_under j t hi =
      let r : t * 2 ^ (j + more) ≡ t * 2 ^ j * 2 ^ more =
      ap (λ (x : ℕ). t * x) (pow-add 2 j more) ∙ sym (mul_assoc t (2 ^ j) (2 ^ more)) in
      let k : suc narrow.fraction_bits + more ≡ suc wide.fraction_bits = omega (arith, W.fractions) in
      subst (λ (x : ℕ). x < 2 ^ suc wide.fraction_bits) (sym r)
      (subst (λ (x : ℕ). t * 2 ^ j * 2 ^ more < 2 ^ x) k (shl_lt (suc narrow.fraction_bits) more hi))

  pub zero_is : candidate wide (magnitude narrow 0 0) ≡ 0
  zero_is =
      ap (candidate wide) (kept_zero W) ∙ candidate_is wide 0 0 (pow_pos wide.fraction_bits)
      ∙ add-zero (0 * leading wide) ∙ zero-mul (leading wide)

  -- the rest of a widened pattern leaves the sign's place free
  pub lifted_lt : (e t : ℕ) → e < all_ones narrow → t < leading narrow →
      candidate wide (magnitude narrow e t) < sign_weight wide
  lifted_lt e t E T =
      let k = lifted W e t E T in
      rw (ap (candidate wide) k.4 ∙ candidate_is wide k.0 k.1 k.3)
      (rest_lt wide k.0 k.1 (le_of_lt k.2) k.3)

-- a shift back up that loses nothing
pub shift_back : (n d w : ℕ) → n < 2 ^ w → n / 2 ^ d * 2 ^ d % 2 ^ w ≡ n / 2 ^ d * 2 ^ d
shift_back n d w h = mod-eq_of_lt (lt_of_le_of_lt (div-mul-le_self n (2 ^ d)) h)
