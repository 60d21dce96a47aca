-- Floats by their widths: a magnitude that a narrower format has, a wider one has too; so the smallest width is by the
-- law of `Counts`, and narrowing tells it. A NaN narrows to nothing. And the pattern of a format with a sign and a
-- magnitude, there and back. Rests on the laws of narrowing and widening, `binary.Laws`.
use Rattle.std.specs.Prelude.{Option, Some, None}
use mathlib.Core.Path.{◌≡◌, refl, ◌∙◌, sym, ap, subst}
use mathlib.Core.Bool.{Bool, true, false, not, cond, false≢true}
use Prim.Native.Nat.{ℕ, ◌*◌, ◌+◌, ◌^◌, ◌≤◌, ◌<◌}
use native.Mathlib.Omega.{arith}
use native.Mathlib.Nat.{le_of_lt}
use lib.Dec.{eqb}
use Rattle.types.specs.Forms.{floats_read, allowed_float}
use Rattle.binary.specs.Formats.{Layout, half, single, double, leading, sign_weight, magnitude, Meaning, finite, infinite, nan, meaning, NotNan}
use Rattle.binary.specs.Conversions.{with_sign, infinity, candidate, has, narrowed, narrowed_meaning}
use Rattle.binary.proofs.Patterns.{rest_lt, signed_lt, meaning_signed, meant-finite, has_it}
use Rattle.binary.proofs.Narrowing.{narrowed_by, found, infinity_lt}
use Rattle.binary.proofs.Laws.{narrowed_complete}
use Rattle.binary.proofs.Widths.{Widens, half-single, single-double, lifted}
use Rattle.float.specs.Floats.{layout_at}
use Rattle.float.proofs.Counts.{Allowed, two, four, eight, allowed_is}
use Rattle.little.specs.Counts.{first_that}
use Rattle.little.proofs.Shortest.{rising}
use Rattle.shortest.specs.Meanings.{float_meant}
use Rattle.shortest.specs.Forms.{shortest_f, fewest}
use Rattle.shortest.proofs.Counts.{before, beside, is_beside, first_is}

-- ---- the widths

pub float_range : (c : ℕ) → allowed_float c ≡ true → (2 ≤ c) × (c ≤ 8)
float_range c a = of (allowed_is c a)
  where
    of : Allowed c → (2 ≤ c) × (c ≤ 8)
    of (two e) = (omega arith, omega arith)
    of (four e) = (omega arith, omega arith)
    of (eight e) = (omega arith, omega arith)

pub float_bounds : (c : ℕ) → allowed_float c ≡ true → (0 < c) × (c ≤ 16)
float_bounds c a = let r = float_range c a in (omega (arith, r.0), omega (arith, r.1))

-- ---- a format's magnitudes

-- a wider format has what a narrower has
module _ {narrow wide : Layout} {lift more : ℕ} (W : Widens narrow wide lift more) where
  pub has_wider : (m : ℕ) → has narrow m ≡ true → has wide m ≡ true
  has_wider m h =
      let f = found narrow m h in
      let l = lifted W f.0 f.1 f.2 f.3 in
      let e : magnitude wide l.0 l.1 ≡ m = sym l.4 ∙ f.5 in
      ap (has wide) (sym e) ∙ has_it wide l.0 l.1 l.2 l.3

has_cases : (n k m : ℕ) → Allowed n → Allowed k → n ≤ k → has (layout_at n) m ≡ true → has (layout_at k) m ≡ true
has_cases n k m (two a) (two b) l h = rw b (rw a at h)
has_cases n k m (two a) (four b) l h = rw b (has_wider half-single m (rw a at h))
has_cases n k m (two a) (eight b) l h =
    rw b (has_wider single-double m (has_wider half-single m (rw a at h)))
has_cases n k m (four a) (two b) l h = absurd (omega arith)
has_cases n k m (four a) (four b) l h = rw b (rw a at h)
has_cases n k m (four a) (eight b) l h = rw b (has_wider single-double m (rw a at h))
has_cases n k m (eight a) (two b) l h = absurd (omega arith)
has_cases n k m (eight a) (four b) l h = absurd (omega arith)
has_cases n k m (eight a) (eight b) l h = rw b (rw a at h)

pub has_more : (m n k : ℕ) → allowed_float n ≡ true → allowed_float k ≡ true → n ≤ k → has (layout_at n) m ≡ true →
    has (layout_at k) m ≡ true
has_more m n k a b = has_cases n k m (allowed_is n a) (allowed_is k b)

-- a pattern's magnitude is one that its format has
kept_has : (t : Bool) (q : ℕ) (n : Option ℕ) → cond t n None ≡ Some q → t ≡ true
kept_has true q n e = refl
kept_has false q n e = absurd (false≢true cc)

pub finite-has : (f : Layout) (b : ℕ) (s : Bool) (m : ℕ) → b < 2 * sign_weight f → meaning f b ≡ finite s m →
    has f m ≡ true
finite-has f b s m h e =
    kept_has (has f m) b (Some (with_sign f s (candidate f m)))
    (sym (narrowed_by f f b (finite s m) e) ∙ narrowed_complete f f b b (h, subst NotNan (sym e) tt, refl))

-- ---- the smallest width

pub floats_rising : rising 0 floats_read ≡ true
unfolding rising
floats_rising = refl

-- by the width before it
pub float_fewest : (c m : ℕ) → beside floats_read c ≡ true → has (layout_at c) m ≡ true →
    eqb c (shortest_f m) ≡ not (has (layout_at (before floats_read c)) m)
unfolding shortest_f
float_fewest c m b h =
    let w = is_beside floats_read c b in
    first_is floats_read floats_rising (λ n. has (layout_at n) m) (has_more m)
    (before floats_read c) c w.there w.here w.below w.next h

four_fewest : (m : ℕ) → has single m ≡ true → eqb 4 (shortest_f m) ≡ not (has half m)
four_fewest m h = float_fewest 4 m refl h

eight_fewest : (m : ℕ) → has double m ≡ true → eqb 8 (shortest_f m) ≡ not (has single m)
eight_fewest m h = float_fewest 8 m refl h

two_fewest : (m : ℕ) → has half m ≡ true → eqb 2 (shortest_f m) ≡ true
unfolding shortest_f first_that
two_fewest m h = rw h refl

-- narrowing tells it
abbrev pub is_lost : Option ℕ → Bool
is_lost (Some q) = false
is_lost None = true

module _ (count b : ℕ) (from to : Layout) (h : b < 2 * sign_weight from) (not-two : eqb count 2 ≡ false)
    (by-has : (m : ℕ) → has from m ≡ true → eqb count (shortest_f m) ≡ not (has to m))
  where
    fewest_of : (x : Meaning) → meaning from b ≡ x → fewest count (float_meant count b x) ≡ is_lost (narrowed_meaning to x)
    fewest_of (finite s m) e =
        by-has m (finite-has from b s m h e) ∙ sym (lost-cond (has to m) (with_sign to s (candidate to m)))
      where
        lost-cond : (t : Bool) (q : ℕ) → is_lost (cond t (Some q) None) ≡ not t
        lost-cond true q = refl
        lost-cond false q = refl
    fewest_of (infinite s) e = not-two
    fewest_of (nan s t) e = refl

    pub fewest_is : fewest count (float_meant count b (meaning from b)) ≡ is_lost (narrowed from to b)
    fewest_is = fewest_of (meaning from b) refl ∙ ap is_lost (sym (narrowed_by from to b (meaning from b) refl))

pub single-fewest : (b : ℕ) → b < 2 ^ 32 →
    fewest 4 (float_meant 4 b (meaning single b)) ≡ is_lost (narrowed single half b)
single-fewest b h = fewest_is 4 b single half h refl four_fewest

pub double-fewest : (b : ℕ) → b < 2 ^ 64 →
    fewest 8 (float_meant 8 b (meaning double b)) ≡ is_lost (narrowed double single b)
double-fewest b h = fewest_is 8 b double single h refl eight_fewest

-- two bytes are the fewest
pub half-fewest : (b : ℕ) → b < 2 ^ 16 → fewest 2 (float_meant 2 b (meaning half b)) ≡ true
half-fewest b h = of (meaning half b) refl
  where
    of : (x : Meaning) → meaning half b ≡ x → fewest 2 (float_meant 2 b x) ≡ true
    of (finite s m) e = two_fewest m (finite-has half b s m h e)
    of (infinite s) e = refl
    of (nan s t) e = refl

-- ---- the pattern with a sign and a magnitude

pub pattern_means : (f : Layout) (s : Bool) (m : ℕ) → has f m ≡ true →
    meaning f (with_sign f s (candidate f m)) ≡ finite s m
pattern_means f s m h =
    let k = found f m h in
    ap (λ (x : ℕ). meaning f (with_sign f s x)) k.4
    ∙ meaning_signed f s k.0 k.1 (le_of_lt k.2) k.3
    ∙ meant-finite f s k.0 k.1 k.2
    ∙ ap (finite s) k.5

pub pattern_below : (f : Layout) (s : Bool) (m : ℕ) → has f m ≡ true → with_sign f s (candidate f m) < 2 * sign_weight f
pattern_below f s m h =
    let k = found f m h in
    ap_below k.4 (signed_lt f s (k.0 * leading f + k.1) (rest_lt f k.0 k.1 (le_of_lt k.2) k.3))
  where
    ap_below : {x y : ℕ} → x ≡ y → with_sign f s y < 2 * sign_weight f → with_sign f s x < 2 * sign_weight f
    ap_below e h = subst (λ (n : ℕ). with_sign f s n < 2 * sign_weight f) (sym e) h

-- a width's patterns are the numbers of its bytes
pub width_patterns : (c : ℕ) → allowed_float c ≡ true → 2 * sign_weight (layout_at c) ≡ 256 ^ c
width_patterns c a = of (allowed_is c a)
  where
    of : Allowed c → 2 * sign_weight (layout_at c) ≡ 256 ^ c
    of (two e) = rw e refl
    of (four e) = rw e refl
    of (eight e) = rw e refl

pub pattern_lt : (c : ℕ) (s : Bool) (m : ℕ) → allowed_float c ≡ true → has (layout_at c) m ≡ true →
    with_sign (layout_at c) s (candidate (layout_at c) m) < 256 ^ c
pattern_lt c s m a h =
    subst (λ (n : ℕ). with_sign (layout_at c) s (candidate (layout_at c) m) < n) (width_patterns c a)
    (pattern_below (layout_at c) s m h)

pub infinity_low : (c : ℕ) (s : Bool) → allowed_float c ≡ true →
    with_sign (layout_at c) s (infinity (layout_at c)) < 256 ^ c
infinity_low c s a =
    subst (λ (n : ℕ). with_sign (layout_at c) s (infinity (layout_at c)) < n) (width_patterns c a)
    (infinity_lt (layout_at c) s)
