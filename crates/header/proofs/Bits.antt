-- A word has every bit of a mask exactly if the mask is what is left of the word under it.
use mathlib.Core.Path.{◌≡◌, refl, ◌∙◌, sym, ap}
use mathlib.Core.Bool.{Bool, true, false, ◌&&◌}
use Prim.Native.Nat.{ℕ, zero, suc, ◌+◌, ◌*◌, ◌/◌, ◌%◌, ◌^◌, ◌≤◌, ◌<◌, min}
use native.Mathlib.Omega.{arith}
use native.Mathlib.Nat.{pow-suc, min-eq_left, min-eq_right}
use lib.Dec.{eqb, leb}
use lib.Bits.{bit_and, and_step, and_zero_r}
use borrow.Author.Tests.{eq-eqb, ne_eqb, leb-true, leb-false, eqb-true, eqb-false}
use Rattle.header.specs.Signature.{every_bit}

no_digit : (A B x y : ℕ) → x < 2 → y < 2 → (A ≡ B → ⊥) → A * 2 + x ≡ B * 2 + y → ⊥
no_digit A B x y p q h e = h (omega arith)

-- one binary digit more
digit : (A B a b : ℕ) → a < 2 → b < 2 → (t u : Bool) → leb b a ≡ t → eqb A B ≡ u →
    eqb (A * 2 + min a b) (B * 2 + b) ≡ (t && u)
digit A B a b p q true true f g = let m = min-eq_right (leb-true b a f) in let e = eqb-true A B g in
    eq-eqb (A * 2 + min a b) (B * 2 + b) (rw (m, e) refl)
digit A B a b p q true false f g =
    let m = min-eq_right (leb-true b a f) in
    rw m (ne_eqb _ _ (no_digit A B b b q q (eqb-false A B g)))
digit A B a b p q false u f g =
    let l : a < b = leb-false b a f in
    rw (min-eq_left (below a b l)) (ne_eqb _ _ (λ e. apart A B a b l q e))
  where
    below : (a b : ℕ) → a < b → a ≤ b
    below a b h = omega arith

    apart : (A B a b : ℕ) → a < b → b < 2 → A * 2 + a ≡ B * 2 + b → ⊥
    apart A B a b h k e = omega arith

none_left : (m : ℕ) → m < 1 → 0 ≡ m
none_left m h = omega arith

pub every : (n mask word : ℕ) → mask < 2 ^ n → eqb (bit_and word mask) mask ≡ every_bit n mask word
unfolding every_bit
every zero mask word h =
    let z : 0 ≡ mask = none_left mask h in
    eq-eqb _ _ (ap (bit_and word) (sym z) ∙ and_zero_r word ∙ z)
every (suc n) mask word h =
    let l : mask / 2 < 2 ^ n = halved (rw (pow-suc 2 n) at h) in
    let whole : mask ≡ mask / 2 * 2 + mask % 2 = omega arith in
    ap (λ (x : ℕ). eqb x mask) (and_step word mask)
    ∙ ap (eqb (bit_and (word / 2) (mask / 2) * 2 + min (word % 2) (mask % 2))) whole
    ∙ digit (bit_and (word / 2) (mask / 2)) (mask / 2) (word % 2) (mask % 2) (omega arith) (omega arith)
    (leb (mask % 2) (word % 2)) (eqb (bit_and (word / 2) (mask / 2)) (mask / 2)) refl refl
    ∙ ap (λ (u : Bool). leb (mask % 2) (word % 2) && u) (every n (mask / 2) (word / 2) l)
  where
    halved : {m p : ℕ} → m < p * 2 → m / 2 < p
    halved h = omega arith
