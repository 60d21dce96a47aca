-- A sign and a magnitude clamped to a signed width, by the two's complement that the code makes.
use mathlib.Core.Path.{◌≡◌, refl, sym, ap, ◌∙◌, subst}
use mathlib.Core.Bool.{Bool, true, false}
use Prim.Native.Nat.{ℕ, zero, suc, ◌+◌, ◌-◌, ◌/◌, ◌^◌, ◌≤◌, ◌<◌, min}
use native.Mathlib.Omega.{arith}
use lib.Dec.{ltb}
use lib.IntN.{ℤ, pos, negsuc, neg_ℤ}
use borrow.Author.Rules.{rules}
use borrow.Author.Tests.{lt-ltb, le-ltb, ltb-true, ltb-false}
use mir.Syntax.{Width}
use mir.Val.{SFits, to_z, of_z}
use mir.ValLaws.{to_z-of_z}
use Rattle.little.specs.Twos.{twos}
use Rattle.little.proofs.Two.{twos_low, twos_high}
use Rattle.float_cast.specs.Integral.{least, clamped}

-- ---- the lesser of two numbers

pub least_left : (a b : ℕ) → a < b → a ≡ least a b
least_left a b h = simp (lt-ltb a b h)

pub least_right : (a b : ℕ) → b ≤ a → b ≡ least a b
least_right a b h = simp (le-ltb a b h)

least_cases : (P : ℕ → Type 0) (a b : ℕ) → (a < b → P a) → (b ≤ a → P b) → P (least a b)
least_cases P a b f g = go (ltb a b) refl
  where
    go : (t : Bool) → ltb a b ≡ t → P (least a b)
    go true e = subst P (least_left a b (ltb-true a b e)) (f (ltb-true a b e))
    go false e = subst P (least_right a b (ltb-false a b e)) (g (ltb-false a b e))

pub min_least : (a b : ℕ) → min a b ≡ least a b
min_least a b = least_cases (λ (n : ℕ). min a b ≡ n) a b (λ h. omega arith) (λ h. omega arith)

-- a bound above the last says nothing
least-least : (n m b : ℕ) → b ≤ m → least (least n m) b ≡ least n b
least-least n m b h =
    least_cases (λ (x : ℕ). least x b ≡ least n b) n m (λ l. refl)
    (λ l. sym (least_right m b h) ∙ least_right n b (omega arith))

-- ---- the clamped number

pub clamped-least : (h n m : ℕ) (s : Bool) → 2 ^ h ≤ m → clamped h s (least n m) ≡ clamped h s n
clamped-least h n m false l = ap pos (least-least n m (2 ^ h - 1) (omega arith))
clamped-least h n m true l = ap (λ (x : ℕ). neg_ℤ (pos x)) (least-least n m (2 ^ h) l)

zero_least : (b : ℕ) → least 0 b ≡ 0
zero_least b = least_cases (λ (x : ℕ). x ≡ 0) 0 b (λ h. refl) (λ h. omega arith)

pub clamped_zero : (h : ℕ) (s : Bool) → pos 0 ≡ clamped h s 0
clamped_zero h false = ap pos (sym (zero_least (2 ^ h - 1)))
clamped_zero h true = ap (λ (x : ℕ). neg_ℤ (pos x)) (sym (zero_least (2 ^ h)))

minus_is : (n : ℕ) → 0 < n → negsuc (n - 1) ≡ neg_ℤ (pos n)
minus_is zero h = absurd (none h)
  where
    none : 0 < 0 → ⊥
    none h = omega arith
minus_is (suc k) h = ap negsuc (less k)
  where
    less : (k : ℕ) → suc k - 1 ≡ k
    less k = omega arith

-- ---- the ends of the clamps: h bits beside the sign, as two's complement of n bytes, at a width of the machine

-- no magnitude
pub clamped_none : (h : ℕ) (s : Bool) (a : ℕ) → a ≡ 0 → pos 0 ≡ clamped h s a
clamped_none h s a e = clamped_zero h s ∙ ap (clamped h s) (sym e)

-- the lesser of a magnitude and a bound: it is some, and within what the next step asks
module _ (l a b : ℕ) (e : l ≡ min a b) where
  pub lesser_some : (a ≡ 0 → ⊥) → 0 < b → 0 < l
  lesser_some n q = omega arith

  pub lesser_less : (m : ℕ) → b ≤ m → l - 1 ≤ m
  lesser_less m h = omega arith

  pub lesser_below : (m : ℕ) → b < m → l < m
  lesser_below m h = omega arith

-- what is read back is the clamped number: of a sign that is not set, and of one that is
module _ (w : Width) (n h : ℕ) (s : Bool) (r : ℤ) (a l : ℕ) (f : SFits w r) where
  pub clamped-up : s ≡ false → l ≡ min a (2 ^ h - 1) → r ≡ twos n l → 256 ^ n / 2 ≡ 2 ^ h → 0 < 2 ^ h →
      to_z w (of_z w r) ≡ clamped h s a
  clamped-up up e q half some =
      let b : l ≤ 2 ^ h - 1 = omega arith in
      to_z-of_z w r f ∙ q ∙ twos_low n l (omega arith) ∙ ap pos (e ∙ min_least a (2 ^ h - 1)) ∙ ap (λ (x : Bool). clamped h x a) (sym up)

  pub clamped-down : (v : ℕ) → s ≡ true → (a ≡ 0 → ⊥) → l ≡ min a (2 ^ h) → r ≡ twos n v →
      v ≡ 256 ^ n - 1 - (l - 1) → 256 ^ n / 2 ≡ 2 ^ h → 256 ^ n ≡ 2 ^ h + 2 ^ h → 0 < 2 ^ h →
      to_z w (of_z w r) ≡ clamped h s a
  clamped-down v down p e q is half whole some =
      let b : l ≤ 2 ^ h = omega arith in
      let o : 0 < l = lesser_some l a (2 ^ h) e p some in
      let back : 256 ^ n - 1 - v ≡ l - 1 = omega arith in
      to_z-of_z w r f ∙ q ∙ twos_high n v (omega arith) ∙ ap negsuc back ∙ minus_is l o
      ∙ ap (λ (x : ℕ). neg_ℤ (pos x)) (e ∙ min_least a (2 ^ h)) ∙ ap (λ (x : Bool). clamped h x a) (sym down)

pub ruleset clamp_ends =
    (clamped_none, lesser_some, lesser_less, lesser_below, clamped-up, clamped-down, rules)
