-- The ends of the conversions between formats, over the formats: what the code has in hand at each, and its answer
-- there.
use Rattle.std.specs.Prelude.{Some, None, Option}
use Rattle.std.specs.Bool.{then_some}
use mathlib.Core.Bool.{Bool, true, false}
use mathlib.Core.Path.{◌≡◌, refl, sym, ap, ◌∙◌}
use Prim.Native.Nat.{ℕ, suc, ◌+◌, ◌-◌, ◌*◌, ◌/◌, ◌%◌, ◌^◌, ◌≤◌, ◌<◌}
use native.Mathlib.Nat.{le_trans, add-zero, zero-mul, lt_of_lt_of_le, mod-eq_of_lt, pow-suc}
use native.Mathlib.Omega.{arith}
use borrow.Author.Rules.{rules}
use borrow.Author.Tests.{eqb-true, eqb-false}
use lib.Dec.{eqb}
use lib.Count.{count_leading_zeros}
use lib.Pow.{pow_pos, pow_mono}
use mir.Syntax.{Width}
use mir.Val.{Fits, bits}
use Rattle.binary.specs.Formats.{Layout, leading, sign_weight, all_ones, negative, exponent, fraction, magnitude}
use Rattle.binary.specs.Conversions.{with_sign, infinity, candidate, quieted, widened}
use Rattle.binary.specs.Conversions.{narrowed}
use Rattle.binary.proofs.Smallests.{same_parts}
use Rattle.binary.proofs.Patterns.{fraction_lt, exponent_le, two_fields, signed_lt}
use Rattle.binary.proofs.Narrowing.{gives_infinity}
use Rattle.binary.proofs.Widening.{widens_to_candidate, widens_to, widens_infinity, widens_nan}
use Rattle.binary.proofs.Widths.{Widens, half-single, single-double, kept_normal, moved_lt}
use Rattle.binary.proofs.Steps.{sign_is, narrow_normal, normal_lost, top_lost, narrow_subnormal, subnormal_lost}
use Rattle.binary.proofs.Steps.{kept_lt, low_lost, narrow_zero, significand, shift_back}
use Rattle.binary.proofs.Steps.{ZerosAbove, zeros_above, zero_is, raised_is, raised_under, lifted_lt}

-- how many digits a pattern has
abbrev pub digits : Layout → ℕ
digits f = suc (f.exponent_bits + f.fraction_bits)

-- a pattern's sign, at its place in another format
abbrev pub sign : Layout → Layout → ℕ → ℕ
sign from to b = b / sign_weight from * sign_weight to

sign_moved : (from to : Layout) (b r : ℕ) → b < 2 * sign_weight from →
    sign from to b + r ≡ with_sign to (negative from b) r
sign_moved from to b r h =
    ap (λ (x : ℕ). x + r)
    (sign_is (sign_weight from) (sign_weight to) b (pow_pos (from.exponent_bits + from.fraction_bits)) h)

under_sign : (f : Layout) → leading f ≤ sign_weight f
under_sign f = pow_mono {i = f.fraction_bits} {j = f.exponent_bits + f.fraction_bits} (omega arith)

-- the fields of a pattern whose rest is an exponent's field alone
alone : (f : Layout) (b e : ℕ) → b % sign_weight f ≡ e * leading f → (exponent f b ≡ e) × (fraction f b ≡ 0)
alone f b e h =
    same_parts (leading f) (exponent f b) (fraction f b) e 0 (fraction_lt f b) (pow_pos f.fraction_bits)
    (two_fields f b ∙ h ∙ sym (add-zero (e * leading f)))

not_alone : (f : Layout) (b e : ℕ) → (b % sign_weight f ≡ e * leading f → ⊥) → exponent f b ≡ e → fraction f b ≡ 0 → ⊥
not_alone f b e n p q =
    n (sym (two_fields f b) ∙ ap (λ (x : ℕ). x * leading f + fraction f b) p ∙ ap (λ (x : ℕ). e * leading f + x) q
    ∙ add-zero (e * leading f))

-- ---- narrowing: the answer is a pattern if a test holds, and none if not

module _ (narrow wide : Layout) (lift more : ℕ) (W : Widens narrow wide lift more) (b : ℕ) where
  -- a pattern with that rest is the answer
  answered : (r rest : ℕ) → b < 2 * sign_weight wide →
      narrowed wide narrow b ≡ Some (with_sign narrow (negative wide b) rest) →
      r ≡ sign wide narrow b + rest → Some r ≡ narrowed wide narrow b
  answered r rest B e q = ap Some (q ∙ sign_moved wide narrow b rest B) ∙ sym e

  -- what a test answers
  tested : (x y r : ℕ) (o : Option ℕ) → o ≡ then_some (eqb x y) r → (x ≡ y → Some r ≡ narrowed wide narrow b) →
      ((x ≡ y → ⊥) → None ≡ narrowed wide narrow b) → o ≡ narrowed wide narrow b
  tested x y r o e found lost = e ∙ go (eqb x y) refl
    where
      go : (t : Bool) → eqb x y ≡ t → then_some t r ≡ narrowed wide narrow b
      go true h = found (eqb-true x y h)
      go false h = lost (eqb-false x y h)

  -- a normal number of the narrower format, if the digits that it drops are zeros
  module _ (above : lift < exponent wide b) (under : exponent wide b < all_ones narrow + lift) where
    pub normal_end : (r : ℕ) (o : Option ℕ) → o ≡ then_some (eqb (fraction wide b % 2 ^ more) 0) r →
        b < 2 * sign_weight wide →
        r ≡ sign wide narrow b + ((exponent wide b - lift) * leading narrow + fraction wide b / 2 ^ more) →
        o ≡ narrowed wide narrow b
    normal_end r o e B q =
        tested (fraction wide b % 2 ^ more) 0 r o e
        (λ z. answered r ((exponent wide b - lift) * leading narrow + fraction wide b / 2 ^ more) B
        (narrow_normal W b above under z) q)
        (λ n. sym (normal_lost W b above (omega (arith, W.high)) n))

  -- past those: the infinity, and what is too large or a NaN
  module _ (over : all_ones narrow + lift ≤ exponent wide b) where
    pub infinity_end : (r : ℕ) (o : Option ℕ) → o ≡ then_some (eqb (b % sign_weight wide) (infinity wide)) r →
        b < 2 * sign_weight wide → r ≡ sign wide narrow b + infinity narrow → o ≡ narrowed wide narrow b
    infinity_end r o e B q =
        tested (b % sign_weight wide) (infinity wide) r o e
        (λ i. let k = alone wide b (all_ones wide) i in
        answered r (infinity narrow) B (gives_infinity wide narrow b k.0 k.1) q)
        (λ n. sym (top_lost W b over (not_alone wide b (all_ones wide) n)))

  -- a subnormal number of the narrower format, if the digits that the significand drops are zeros
  module _ (below : exponent wide b ≤ lift) (near : lift - narrow.fraction_bits < exponent wide b) where
    abbrev pub down : ℕ
    down = suc lift + more - exponent wide b

    down_is : down + exponent wide b ≡ suc lift + more
    down_is = omega arith

    close_by : lift < exponent wide b + narrow.fraction_bits
    close_by = omega (arith, W.deep)

    abbrev shorter : ℕ
    shorter = significand wide b / 2 ^ down

    shifted_back : shorter * 2 ^ down % 2 ^ digits wide ≡ shorter * 2 ^ down
    shifted_back =
        let s : significand wide b < 2 ^ digits wide =
        omega (arith, fraction_lt wide b, under_sign wide, pow-suc 2 (wide.exponent_bits + wide.fraction_bits)) in
        shift_back (significand wide b) down (digits wide) s

    pub subnormal_end : (r : ℕ) (o : Option ℕ) →
        o ≡ then_some (eqb (significand wide b / 2 ^ down * 2 ^ down % 2 ^ digits wide) (significand wide b)) r →
        b < 2 * sign_weight wide → r ≡ sign wide narrow b + significand wide b / 2 ^ down →
        o ≡ narrowed wide narrow b
    subnormal_end r o e B q =
        tested (significand wide b / 2 ^ down * 2 ^ down % 2 ^ digits wide) (significand wide b) r o e
        (λ z. answered r shorter B (narrow_subnormal W b down down_is below close_by (sym shifted_back ∙ z)) q)
        (λ n. sym (subnormal_lost W b down down_is below close_by (λ z. n (shifted_back ∙ z))))

    -- its pattern fits where those of the narrower format do
    pub subnormal_fits : (w : Width) (r : ℕ) → b < 2 * sign_weight wide → 2 * sign_weight narrow ≤ 2 ^ bits w →
        r ≡ sign wide narrow b + significand wide b / 2 ^ down → Fits w r
    subnormal_fits w r B room q =
        let k : shorter < sign_weight narrow =
        lt_of_lt_of_le (kept_lt W b down down_is below close_by) (under_sign narrow) in
        record {
          fits = lt_of_lt_of_le
              (rw (q, sign_moved wide narrow b shorter B) (signed_lt narrow (negative wide b) shorter k)) room;
        }

  -- below those: zero, and what is too small
  module _ (low : exponent wide b ≤ lift - narrow.fraction_bits) where
    pub zero_end : (r : ℕ) (o : Option ℕ) → o ≡ then_some (eqb (b % sign_weight wide) 0) r →
        b < 2 * sign_weight wide → r ≡ sign wide narrow b → o ≡ narrowed wide narrow b
    zero_end r o e B q =
        tested (b % sign_weight wide) 0 r o e
        (λ z. let k = alone wide b 0 (z ∙ sym (zero-mul (leading wide))) in
        answered r 0 B (narrow_zero W b k.0 k.1) (q ∙ sym (add-zero (sign wide narrow b))))
        (λ n. sym (low_lost W b (omega (arith, W.deep)) (not_alone wide b 0 (λ e. n (e ∙ zero-mul (leading wide))))))

-- ---- widening a subnormal number, moved up until its leading digit is where a normal number has it

-- how far up a fraction goes, by the zeros above it in the digits of the wider pattern
abbrev pub up : Layout → Layout → ℕ → ℕ
up narrow wide t = count_leading_zeros (digits wide) t - (digits wide - suc narrow.fraction_bits)

module _ (narrow wide : Layout) (lift more : ℕ) (W : Widens narrow wide lift more) (t : ℕ) where
  -- no digit
  pub zero_raised : t ≡ 0 → 0 ≡ candidate wide (magnitude narrow 0 t)
  zero_raised z = sym (ap (λ (x : ℕ). candidate wide (magnitude narrow 0 x)) z ∙ zero_is W)

  module _ (T : t < leading narrow) (n : t ≡ 0 → ⊥) where
    some : 0 < t
    some = omega arith

    zeros : ZerosAbove (digits wide) narrow.fraction_bits t
    zeros = zeros_above (digits wide) narrow.fraction_bits t (omega (arith, W.fractions)) some T

    -- the move loses no digit
    whole : t * 2 ^ (up narrow wide t + more) % 2 ^ digits wide ≡ t * 2 ^ (up narrow wide t + more)
    whole =
        mod-eq_of_lt (lt_of_lt_of_le (raised_under W (up narrow wide t) t zeros.3)
        (pow_mono {i = suc wide.fraction_bits} {j = digits wide} (omega arith)))

    -- as many zeros are above it as the wider pattern has digits more
    pub zeros_enough : (k z : ℕ) → k ≡ digits wide - suc narrow.fraction_bits → z ≡ count_leading_zeros (digits wide) t →
        k ≤ z
    zeros_enough k z q e = rw (q, e) zeros.0

    -- it goes up by no more places than a fraction has digits
    low : (j : ℕ) → j ≡ up narrow wide t → j ≤ narrow.fraction_bits
    low j q = rw q zeros.1

    pub up_small : (j k : ℕ) → j ≡ up narrow wide t → narrow.fraction_bits ≤ k → j ≤ k
    up_small j k q h = le_trans (low j q) h

    pub up_fits : (w : Width) (j d : ℕ) → j ≡ up narrow wide t → narrow.fraction_bits + d < 2 ^ bits w → Fits w (j + d)
    up_fits w j d q h = record { fits = omega (arith, low j q) }

    pub up_under : (j d k : ℕ) → j ≡ up narrow wide t → narrow.fraction_bits + d < k → j + d < k
    up_under j d k q h = omega (arith, low j q)

    -- where it is then, it is the number
    pub raised : (r : ℕ) →
        r ≡ (lift - up narrow wide t) * leading wide + t * 2 ^ (up narrow wide t + more) % 2 ^ digits wide →
        r ≡ candidate wide (magnitude narrow 0 t)
    raised r q =
        q ∙ ap (λ (x : ℕ). (lift - up narrow wide t) * leading wide + x) whole
        ∙ raised_is W (up narrow wide t) t (le_trans zeros.1 W.deep) zeros.2 zeros.3

    pub raised_fits : (w : Width) (r : ℕ) → sign_weight wide ≤ 2 ^ bits w →
        r ≡ (lift - up narrow wide t) * leading wide + t * 2 ^ (up narrow wide t + more) % 2 ^ digits wide → Fits w r
    raised_fits w r h q =
        let l : r < sign_weight wide = rw (raised r q) (lifted_lt W 0 t W.some T) in
        record { fits = lt_of_lt_of_le l h }

-- ---- widening

module _ (narrow wide : Layout) (lift more : ℕ) (W : Widens narrow wide lift more)
    (b : ℕ) (B : b < 2 * sign_weight narrow) where
  -- a pattern with that rest is the answer
  widened_is : (r rest : ℕ) → widened narrow wide b ≡ with_sign wide (negative narrow b) rest →
      r ≡ sign narrow wide b + rest → r ≡ widened narrow wide b
  widened_is r rest e q = q ∙ sign_moved narrow wide b rest B ∙ sym e

  -- a subnormal number, or zero
  module _ (rest : ℕ) (e : rest ≡ candidate wide (magnitude narrow 0 (fraction narrow b))) where
    pub subnormal_wide : (r : ℕ) → exponent narrow b ≡ 0 → r ≡ sign narrow wide b + rest →
        r ≡ widened narrow wide b
    subnormal_wide r z q =
        widened_is r rest (widens_to_candidate narrow wide b (rw z W.some) ∙ rw (z, ← e)) q

    pub subnormal_sum_fits : (w : Width) (s : ℕ) → 2 * sign_weight wide ≤ 2 ^ bits w →
        s ≡ sign narrow wide b → Fits w (s + rest)
    subnormal_sum_fits w s h q =
        let l : rest < sign_weight wide = rw e (lifted_lt W 0 (fraction narrow b) W.some (fraction_lt narrow b)) in
        record {
          fits = lt_of_lt_of_le
              (rw (q, sign_moved narrow wide b rest B) (signed_lt wide (negative narrow b) rest l)) h;
        }

  -- a normal number
  pub normal_wide : (r : ℕ) → (exponent narrow b ≡ 0 → ⊥) → exponent narrow b < all_ones narrow →
      r ≡ sign narrow wide b + ((exponent narrow b + lift) * leading wide + fraction narrow b * 2 ^ more) →
      r ≡ widened narrow wide b
  normal_wide r n h q =
      let e = exponent narrow b in
      let t = fraction narrow b in
      widened_is r ((e + lift) * leading wide + t * 2 ^ more)
      (widens_to narrow wide b (e + lift) (t * 2 ^ more) h (moved_lt W t (fraction_lt narrow b))
      (kept_normal W e t (omega arith))) q

  -- the infinity, and a NaN
  module _ (over : all_ones narrow ≤ exponent narrow b) (r : ℕ) where
    all_ones_lem : exponent narrow b ≡ all_ones narrow
    all_ones_lem = omega (arith, exponent_le narrow b)

    pub infinity_wide : fraction narrow b ≡ 0 → r ≡ sign narrow wide b + infinity wide →
        r ≡ widened narrow wide b
    infinity_wide z q = widened_is r (infinity wide) (widens_infinity narrow wide b all_ones_lem z) q

    pub nan_wide : (fraction narrow b ≡ 0 → ⊥) →
        r ≡ sign narrow wide
        b + (infinity wide + quieted wide (fraction narrow b * 2 ^ (wide.fraction_bits - narrow.fraction_bits))) →
        r ≡ widened narrow wide b
    nan_wide n q =
        widened_is r
        (infinity wide + quieted wide (fraction narrow b * 2 ^ (wide.fraction_bits - narrow.fraction_bits)))
        (widens_nan narrow wide b all_ones_lem n) q

-- the two pairs of formats
pub ruleset pairs = (half-single, single-double)

pub ruleset narrow_ends = (normal_end, infinity_end, subnormal_end, subnormal_fits, zero_end, rules)

pub ruleset to_half_ends = (half-single, narrow_ends)

pub ruleset to_single_ends = (single-double, narrow_ends)

pub ruleset raise_ends = (pairs, zero_raised, zeros_enough, up_small, up_fits, up_under, raised, raised_fits, rules)

pub ruleset widen_ends = (pairs, subnormal_wide, subnormal_sum_fits, normal_wide, infinity_wide, nan_wide, rules)
