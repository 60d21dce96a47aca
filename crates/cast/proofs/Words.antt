-- Two words and the number that they stand for are each other's inverse. Rests on the laws of digits, at the base
-- 2 ^ 64.
use mathlib.Core.Path.{◌≡◌, refl, ◌∙◌, sym, ap}
use Prim.Native.Nat.{ℕ, suc, ◌+◌, ◌-◌, ◌*◌, ◌^◌, ◌≤◌, ◌<◌}
use native.Mathlib.Nat.{mod-eq_of_lt, div-eq_of_lt, le_trans, mul-le-mul_right, le-add_right, suc-mul}
use native.Mathlib.Omega.{arith}
use lib.Arith.{digits_lt, digits_div, digits_mod}
use borrow.Author.Tests.{le-ltb}
use lib.IntN.{negsuc}
use mir.Syntax.{w128}
use mir.Val.{Fits, to_z}
use mir.ValLaws.{of_z-to_z}
use Rattle.types.specs.declared.Wide.{Wide}
use Rattle.types.specs.Values.{joined, words, wide_of}

-- both words fit: what is known of every `Wide` that the code holds
abbrev pub Held : Wide → Type 0
Held w = (w.lo < 2 ^ 64) × (w.hi < 2 ^ 64)

pair : (l h : ℕ) (w : Wide) → l ≡ w.lo → h ≡ w.hi → record { lo = l; hi = h } ≡ w
pair l h w p q = λ i. record { lo = p i; hi = q i }

-- the words of the number that two words stand for
pub words-joined : (w : Wide) → Held w → words (joined w) ≡ w
words-joined w h = pair _ _ w (digits_mod w.hi h.0) (digits_div w.hi h.0)

pub joined-fits : (w : Wide) → Held w → Fits w128 (joined w)
joined-fits w h = record { fits = digits_lt h.1 h.0 }

-- the high word is 0, or it is not
pub low_only : (w : Wide) → w.hi ≡ 0 → joined w ≡ w.lo
low_only w e = omega arith

pub high_word : (w : Wide) → (w.hi ≡ 0 → ⊥) → 2 ^ 64 ≤ joined w
high_word w n = omega arith

-- the words of the signed number
pub wide_back : (w : Wide) → Held w → wide_of (to_z w128 (joined w)) ≡ w
wide_back w h = ap words (of_z-to_z w128 (joined w) (joined-fits w h)) ∙ words-joined w h

-- the high word decides the sign
pub low_half : (w : Wide) → Held w → w.hi < 2 ^ 63 → joined w < 2 ^ 127
low_half w h k = digits_lt {c = 2 ^ 64} k h.0

pub high_half : (w : Wide) → 2 ^ 63 ≤ w.hi → 2 ^ 127 ≤ joined w
high_half w k = le_trans (mul-le-mul_right (2 ^ 64) k) (le-add_right (w.hi * 2 ^ 64) w.lo)

pub high_negative : (w : Wide) → 2 ^ 63 ≤ w.hi → to_z w128 (joined w) ≡ negsuc (2 ^ 128 - suc (joined w))
high_negative w k = simp (le-ltb (joined w) (2 ^ 127) (high_half w k))

-- ---- the words of a number of 64 bits

pub small_words : (n : ℕ) → n < 2 ^ 64 → record { lo = n; hi = 0 } ≡ words n
small_words n h = sym (pair _ _ (record { lo = n; hi = 0 }) (mod-eq_of_lt h) (div-eq_of_lt h))

-- the bits of a negative number: those of the low word, below ones
ones_below : (m q n : ℕ) → m ≡ suc q → n < m → m * m - suc n ≡ q * m + (q - n)
ones_below m q n e h = let k : m * m ≡ q * m + m = ap (λ (x : ℕ). x * m) e ∙ suc-mul q m in omega arith

pub negative_words : (n : ℕ) → n < 2 ^ 64 → record { lo = 2 ^ 64 - 1 - n; hi = 2 ^ 64 - 1 } ≡ words (2 ^ 128 - suc n)
negative_words n h =
    let k : 2 ^ 64 - 1 - n < 2 ^ 64 = omega arith in
    let w : Wide = record { lo = 2 ^ 64 - 1 - n; hi = 2 ^ 64 - 1 } in
    sym (ap words (ones_below (2 ^ 64) (2 ^ 64 - 1) n refl h)
    ∙ pair _ _ w (digits_mod (2 ^ 64 - 1) k) (digits_div (2 ^ 64 - 1) k))
