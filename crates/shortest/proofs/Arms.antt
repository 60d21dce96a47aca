-- The ends of the functions that judge a number of a known count: what each arm answers, by the count that led to it.
-- Rests on the bounds of `Counts` and on `Floats`.
use Rattle.std.specs.Prelude.{Option, Some, None}
use Rattle.std.specs.Option.{is_some}
use mathlib.Core.Path.{◌≡◌, refl, ◌∙◌, sym, ap}
use mathlib.Core.Bool.{Bool, true, false, not, ◌&&◌, false≢true}
use mathlib.Core.List.{List}
use Prim.Native.Nat.{ℕ, suc, ◌+◌, ◌-◌, ◌*◌, ◌/◌, ◌^◌, ◌≤◌, ◌<◌}
use native.Mathlib.Omega.{arith}
use native.Mathlib.Nat.{mul-suc, mul-one, mul-zero, mul-le-mul_left}
use borrow.Author.Rules.{rules}
use borrow.Author.Tests.{le-leb, lt-leb, ltb-true, ltb-false}
use borrow.Rule.Slice.Know.{Fit}
use borrow.Table.Referent.{f_int}
use lib.Dec.{ltb, leb, eqb, lit<}
use mir.Syntax.{w8, w32, w64}
use mir.Val.{Fits}
use Rattle.types.specs.Forms.{integers_written, allowed_count}
use Rattle.little.specs.Le.{number_at}
use Rattle.little.specs.Twos.{twos}
use Rattle.little.specs.Counts.{holds_s, shortest_u, shortest_s}
use Rattle.little.proofs.At.{number_lt, number_add}
use Rattle.integer.proofs.Counts.{allowed_bounds}
use Rattle.integer.proofs.Arms.{NotSmaller, sixteen_there}
use Rattle.binary.specs.Formats.{single, double, half, meaning}
use Rattle.binary.specs.Conversions.{narrowed}
use Rattle.float.specs.Floats.{layout_at}
use Rattle.float.proofs.Counts.{allowed_last}
use Rattle.float.proofs.Ends.{eight_there}
use Rattle.shortest.specs.Meanings.{float_meant}
use Rattle.shortest.specs.Forms.{fewest}
use Rattle.shortest.specs.Steps.{float_at}
use Rattle.shortest.proofs.Counts.{before, beside, uint_fewest, uint_one, int_beside, int_fewest, int_one, not_held}
use Rattle.shortest.proofs.Floats.{is_lost, single-fewest, double-fewest, half-fewest}

-- ---- a number from one to another
module _ (low number high : ℕ) where
  pub below_low : number < low → false ≡ (leb low number && leb number high)
  below_low h = rw (lt-leb low number h) refl

-- ---- two halves of 16 bytes

inside : (n low high : ℕ) → low ≤ n → n ≤ high → true ≡ (leb low n && leb n high)
inside n low high h k = rw (le-leb low n h, le-leb n high k) refl

above : (n low high : ℕ) → high < n → false ≡ (leb low n && leb n high)
above n low high h = rw (lt-leb n high h) (none (leb low n))
  where
    none : (t : Bool) → false ≡ (t && false)
    none true = refl
    none false = refl

-- over any number P for 256 ^ 8, and its half: a number of two digits in base P lies in the middle or not
module _ (P H low high : ℕ) (both : H + H ≡ P) (l : low < P) (h : high < P) where
  next : P * high + P ≤ P * P
  next = let m : P * suc high ≤ P * P = mul-le-mul_left P h in rw (mul-suc P high) at m

  two_digits : low + P * high < P * P
  two_digits = omega (arith, next)

  low_half : low < H → ltb 0 high ≡ (leb H (low + P * high) && leb (low + P * high) (P * P - 1 - H))
  low_half k = by (ltb 0 high) refl
    where
      by : (t : Bool) → ltb 0 high ≡ t →
          ltb 0 high ≡ (leb H (low + P * high) && leb (low + P * high) (P * P - 1 - H))
      by true e =
          let some = ltb-true 0 high e in
          let m : P * 1 ≤ P * high = mul-le-mul_left P some in
          let one : P * 1 ≡ P = mul-one P in
          let n = next in
          e ∙ inside (low + P * high) H (P * P - 1 - H) (omega arith) (omega arith)
      by false e =
          let none : high ≡ 0 = omega (arith, ltb-false 0 high e) in
          let m : P * high ≡ 0 = ap (λ (x : ℕ). P * x) none ∙ mul-zero P in
          e ∙ below_low H (low + P * high) (P * P - 1 - H) (omega arith)

  high_half : (top : ℕ) → suc top ≡ P → H ≤ low →
      ltb high top ≡ (leb H (low + P * high) && leb (low + P * high) (P * P - 1 - H))
  high_half top f k = by (ltb high top) refl
    where
      by : (t : Bool) → ltb high top ≡ t →
          ltb high top ≡ (leb H (low + P * high) && leb (low + P * high) (P * P - 1 - H))
      by true e =
          let some = ltb-true high top e in
          let m : P * suc (suc high) ≤ P * P = mul-le-mul_left P (omega arith) in
          let n : P * suc (suc high) ≡ P * high + P + P = mul-suc P (suc high) ∙ ap (λ (x : ℕ). x + P) (mul-suc P high)
          in
          e ∙ inside (low + P * high) H (P * P - 1 - H) (omega arith) (omega arith)
      by false e =
          let all : suc high ≡ P = omega (arith, ltb-false high top e) in
          let m : P * high + P ≡ P * P = sym (mul-suc P high) ∙ ap (λ (x : ℕ). P * x) all in
          e ∙ above (low + P * high) H (P * P - 1 - H) (omega arith)

eight_half : 256 ^ 8 / 2 + 256 ^ 8 / 2 ≡ 256 ^ 8
eight_half = refl

module _ (low high : ℕ) (l : low < 256 ^ 8) (h : high < 256 ^ 8) where
  halves : not (holds_s 8 (twos 16 (low + 256 ^ 8 * high)))
      ≡ (leb (256 ^ 8 / 2) (low + 256 ^ 8 * high) && leb (low + 256 ^ 8 * high) (256 ^ 16 - 1 - 256 ^ 8 / 2))
  halves = not_held 8 16 (low + 256 ^ 8 * high) (lit< tt) (two_digits (256 ^ 8) (256 ^ 8 / 2) low high eight_half l h)

  wide_low : low < 0x8000_0000_0000_0000 → ltb 0 high ≡ not (holds_s 8 (twos 16 (low + 256 ^ 8 * high)))
  wide_low k = low_half (256 ^ 8) (256 ^ 8 / 2) low high eight_half l h k ∙ sym halves

  wide_high : 0x8000_0000_0000_0000 ≤ low →
      ltb high 0xFFFF_FFFF_FFFF_FFFF ≡ not (holds_s 8 (twos 16 (low + 256 ^ 8 * high)))
  wide_high k = high_half (256 ^ 8) (256 ^ 8 / 2) low high eight_half l h 0xFFFF_FFFF_FFFF_FFFF refl k ∙ sym halves

module _ (low high : ℕ) (l : Fits w64 low) (h : Fits w64 high) where
  pub wide_below : low < 0x8000_0000_0000_0000 → ltb 0 high ≡ not (holds_s 8 (twos 16 (low + 256 ^ 8 * high)))
  wide_below = wide_low low high l.fits h.fits

  pub wide_above : 0x8000_0000_0000_0000 ≤ low →
      ltb high 0xFFFF_FFFF_FFFF_FFFF ≡ not (holds_s 8 (twos 16 (low + 256 ^ 8 * high)))
  wide_above = wide_high low high l.fits h.fits

pub ruleset wide_ends = (wide_below, wide_above, rules)

-- ---- an arm of a count n, which has read its bytes as v
module _ (s : List ℕ) (at count n v : ℕ) (e : count ≡ n) (f : v ≡ number_at n s at) (h : v < 256 ^ n)
    (b : beside integers_written n ≡ true) where
  same : v ≡ number_at count s at
  same = f ∙ ap (λ (m : ℕ). number_at m s at) (sym e)

  pub uint_arm : (low : ℕ) → low ≡ 256 ^ before integers_written n →
      leb low v ≡ eqb count (shortest_u (number_at count s at))
  uint_arm low l =
      rw (l, ← same, e) (sym (uint_fewest n v b h))

  pub int_arm : (r : Bool) (low high : ℕ) → r ≡ (leb low v && leb v high) →
      low ≡ 256 ^ before integers_written n / 2 → high ≡ 256 ^ n - 1 - 256 ^ before integers_written n / 2 →
      r ≡ eqb count (shortest_s (twos count (number_at count s at)))
  int_arm r low high q l k = q ∙ rw (l, k, ← same, e) (sym (int_fewest n v b h))

-- one byte holds what it holds
module _ (s : List ℕ) (at count : ℕ) (bytes : Fit (f_int w8) 0 s) (e : count ≡ 1) where
  one_low : number_at 1 s at < 256
  one_low = number_lt 1 s at (λ i. (bytes i).fits)

  pub uint_one_arm : true ≡ eqb count (shortest_u (number_at count s at))
  uint_one_arm = rw e (sym (uint_one (number_at 1 s at) one_low))

  pub int_one_arm : true ≡ eqb count (shortest_s (twos count (number_at count s at)))
  int_one_arm = rw e (sym (int_one (number_at 1 s at) one_low))

-- the last arm: 16 bytes, in two halves
module _ (at count : ℕ) (a : allowed_count count ≡ true) (n : NotSmaller count) where
  sixteen : count ≡ 16
  sixteen =
      let most = (allowed_bounds count a).1 in
      let least = sixteen_there at count a n (at + count) (omega arith) in
      omega arith

  pub high_there : (long : ℕ) → at + count ≤ long → at + 8 + 8 ≤ long
  high_there long h = let k = sixteen_there at count a n long h in omega arith

  pub low_there : (long : ℕ) → at + count ≤ long → at + 8 ≤ long
  low_there long h = let k = sixteen_there at count a n long h in omega arith

  module _ (s : List ℕ) (bytes : Fit (f_int w8) 0 s) (high : ℕ) (g : high ≡ number_at 8 s (at + 8)) where
    whole : number_at 16 s at ≡ number_at 8 s at + 256 ^ 8 * high
    whole = number_add 8 8 s at ∙ ap (λ (x : ℕ). number_at 8 s at + 256 ^ 8 * x) (sym g)

    low_below : number_at 8 s at < 256 ^ 8
    low_below = number_lt 8 s at (λ i. (bytes i).fits)

    all_below : number_at 16 s at < 256 ^ 16
    all_below = number_lt 16 s at (λ i. (bytes i).fits)

    pub uint_sixteen : ltb 0 high ≡ eqb count (shortest_u (number_at count s at))
    uint_sixteen =
        rw sixteen (by (ltb 0 high) refl ∙ sym (uint_fewest 16 (number_at 16 s at) refl all_below))
      where
        by : (t : Bool) → ltb 0 high ≡ t → ltb 0 high ≡ leb (256 ^ before integers_written 16) (number_at 16 s at)
        by true k =
            let some = ltb-true 0 high k in
            let w = whole in
            k ∙ sym (le-leb (256 ^ before integers_written 16) (number_at 16 s at) (omega arith))
        by false k =
            let none = ltb-false 0 high k in
            let w = whole in
            let l = low_below in
            k ∙ sym (lt-leb (256 ^ before integers_written 16) (number_at 16 s at) (omega arith))

    pub int_sixteen : (r : Bool) (low : ℕ) → low ≡ number_at 8 s at →
        r ≡ not (holds_s 8 (twos 16 (low + 256 ^ 8 * high))) →
        r ≡ eqb count (shortest_s (twos count (number_at count s at)))
    int_sixteen r low f q =
        let w : low + 256 ^ 8 * high ≡ number_at 16 s at = rw f (sym whole) in
        q
        ∙ rw (w, sixteen) (sym (int_beside 16 (number_at 16 s at) refl all_below))

pub ruleset uint_ends = (uint_one_arm, uint_arm, uint_sixteen, high_there, low_there, rules)

pub ruleset int_ends = (int_one_arm, int_arm, int_sixteen, high_there, low_there, rules)

-- ---- floats

told_lost : (r : Option ℕ) (t : Bool) → is_some r ≡ not t → t ≡ is_lost r
told_lost (Some q) true h = absurd (false≢true (sym h))
told_lost (Some q) false h = refl
told_lost None true h = refl
told_lost None false h = absurd (false≢true h)

-- a width is the fewest where the narrower one has no pattern
module _ (bits : ℕ) (r : Option ℕ) (t : Bool) (h : is_some r ≡ not t) where
  pub single_told : Fits w32 bits → r ≡ narrowed single half bits →
      t ≡ fewest 4 (float_meant 4 bits (meaning single bits))
  single_told w e = told_lost r t h ∙ ap is_lost e ∙ sym (single-fewest bits w.fits)

  pub double_told : Fits w64 bits → r ≡ narrowed double single bits →
      t ≡ fewest 8 (float_meant 8 bits (meaning double bits))
  double_told w e = told_lost r t h ∙ ap is_lost e ∙ sym (double-fewest bits w.fits)

-- the same, case by case
module _ (bits : ℕ) (w : Fits w32 bits) (r : Option ℕ) (e : r ≡ narrowed single half bits) where
  pub single_kept : (q : ℕ) → r ≡ Some q → false ≡ fewest 4 (float_meant 4 bits (meaning single bits))
  single_kept q p = ap is_lost (sym p ∙ e) ∙ sym (single-fewest bits w.fits)

  pub single_lost : r ≡ None → true ≡ fewest 4 (float_meant 4 bits (meaning single bits))
  single_lost p = ap is_lost (sym p ∙ e) ∙ sym (single-fewest bits w.fits)

module _ (bits : ℕ) (w : Fits w64 bits) (r : Option ℕ) (e : r ≡ narrowed double single bits) where
  pub double_kept : (q : ℕ) → r ≡ Some q → false ≡ fewest 8 (float_meant 8 bits (meaning double bits))
  double_kept q p = ap is_lost (sym p ∙ e) ∙ sym (double-fewest bits w.fits)

  pub double_lost : r ≡ None → true ≡ fewest 8 (float_meant 8 bits (meaning double bits))
  double_lost p = ap is_lost (sym p ∙ e) ∙ sym (double-fewest bits w.fits)

pub ruleset width_ends = (single_told, double_told, single_kept, single_lost, double_kept, double_lost, rules)

-- an arm of a width
module _ (s : List ℕ) (at count : ℕ) where
  pub float_arm : (n v : ℕ) (r : Bool) → count ≡ n → v ≡ number_at n s at →
      r ≡ fewest n (float_meant n v (meaning (layout_at n) v)) → r ≡ fewest count (float_at count s at)
  float_arm n v r e f q = q ∙ rw (f, e) refl

  pub float_two : Fit (f_int w8) 0 s → count ≡ 2 → true ≡ fewest count (float_at count s at)
  float_two bytes e = rw e (sym (half-fewest (number_at 2 s at) (number_lt 2 s at (λ i. (bytes i).fits))))

pub ruleset float_ends = (float_two, float_arm, eight_there, allowed_last, rules)
