-- A float's magnitude in units of 2 ^ -1074, beside the fraction m * up e / down e that the logic compares by. The one
-- home of that law, for all crates above.
use mathlib.Core.Path.{◌≡◌, refl, sym, ap, ◌∙◌}
use mathlib.Core.Bool.{Bool, true, false, ◌&&◌}
use Prim.Native.Nat.{ℕ, zero, suc, ◌+◌, ◌-◌, ◌*◌, ◌%◌, ◌^◌, ◌≤◌, ◌<◌}
use native.Mathlib.Nat.{mul_assoc, mul_comm, mul-one, mul_right_comm, eq_of_mul-eq-mul_right, le_refl, le_trans}
use native.Mathlib.Omega.{arith}
use lib.Dec.{T, leb, ltb, eqb, lit≤, leb→le, eqb→eq}
use lib.IntN.{ℤ, pos, negsuc}
use lib.Pow.{pow-add, pow_pos, pow-lt, pow_mono}
use lib.Ieee.{Float, Format, binary32, binary64, prec, emax, low, up, down, fits}
use lib.Ieee as I
use lib.Ieee.Fits.{and_l, and_r, down_pos}
use borrow.Author.Tests.{leb-true, leb-false}
use Rattle.binary.specs.Floats.{units_of}

pub clash : (a b : ℕ) → a ≤ b → b < a → ⊥
clash a b p q = omega arith

not_above : (k : ℕ) (t : Bool) → leb k 1074 ≡ t → 2 ^ k ≤ 2 ^ 1074 → k ≤ 1074
not_above k true e p = leb-true k 1074 e
not_above k false e p = absurd (clash (2 ^ k) (2 ^ 1074) p (pow-lt (leb-false k 1074 e)))

-- the units are the fraction times 2 ^ 1074
pub scale : (m : ℕ) (e : ℤ) → down e ≤ 2 ^ 1074 → units_of m e * down e ≡ m * up e * 2 ^ 1074
scale m (pos k) h = mul-one (m * 2 ^ (1074 + k))
    ∙ ap (λ (x : ℕ). m * x) (pow-add 2 1074 k ∙ mul_comm (2 ^ 1074) (2 ^ k)) ∙ sym (mul_assoc m (2 ^ k) (2 ^ 1074))
scale m (negsuc j) h =
    let l : suc j ≤ 1074 = not_above (suc j) (leb (suc j) 1074) refl h in
    let e : 1073 - j + suc j ≡ 1074 = omega arith in
    mul_assoc m (2 ^ (1073 - j)) (2 ^ suc j)
    ∙ ap (λ (x : ℕ). m * x) (sym (pow-add 2 (1073 - j) (suc j)) ∙ ap (λ (x : ℕ). 2 ^ x) e)
    ∙ ap (λ (x : ℕ). x * 2 ^ 1074) (sym (mul-one m))

-- the exponent of a float is no lower than that of the smallest unit
abbrev pub Fine : Float → Type 0
Fine I.nan = Unit {0}
Fine (I.inf s) = Unit {0}
Fine (I.fin s m e) = down e ≤ 2 ^ 1074

one_le : (x p : ℕ) → 1 * x ≡ 1 → 0 < p → x ≤ p
one_le x p e h = omega arith

low_ok : (f : Format) → 2 ^ low f ≤ 2 ^ 1074
low_ok binary32 = pow_mono {i = 149} {j = 1074} (lit≤ tt)
low_ok binary64 = le_refl (2 ^ 1074)

pub fine : (f : Format) (x : Float) → T (fits f x) → Fine x
unfolding fits
fine f I.nan t = tt
fine f (I.inf s) t = tt
fine f (I.fin s zero (pos k)) t = lit≤ tt
fine f (I.fin s zero (negsuc k)) t = one_le (2 ^ suc k) (2 ^ 1074) (eqb→eq (1 * 2 ^ suc k) 1 t) (pow_pos 1074)
fine f (I.fin s (suc m) e) t =
    le_trans (leb→le (down e) (2 ^ low f)
    (and_r (eqb (suc m % 2) 1 && ltb (suc m) (2 ^ prec f)) (leb (down e) (2 ^ low f))
    (and_l (eqb (suc m % 2) 1 && ltb (suc m) (2 ^ prec f) && leb (down e) (2 ^ low f))
    (ltb (suc m * up e) (2 ^ suc (emax f) * down e)) t)))
    (low_ok f)

-- a fraction that is n / 2 ^ l, counted
pub counted : (l j m n : ℕ) (e : ℤ) → l + j ≡ 1074 → down e ≤ 2 ^ 1074 → m * up e * 2 ^ l ≡ n * down e →
    units_of m e ≡ n * 2 ^ j
counted l j m n e L d h =
    eq_of_mul-eq-mul_right (down e) (down_pos e) (units_of m e) (n * 2 ^ j)
    (scale m e d
    ∙ ap (λ (x : ℕ). m * up e * x) (ap (λ (x : ℕ). 2 ^ x) (sym L) ∙ pow-add 2 l j)
    ∙ sym (mul_assoc (m * up e) (2 ^ l) (2 ^ j))
    ∙ ap (λ (x : ℕ). x * 2 ^ j) h
    ∙ mul_right_comm n (down e) (2 ^ j))
