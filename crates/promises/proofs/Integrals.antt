-- A float as an integer, by document 01's words, for demand 2: "`as_integer` takes whole values, and magnitudes under
-- those bounds as 0, and clamps".
use Rattle.std.specs.Prelude.{Result, Ok, Err}
use mathlib.Core.Path.{◌≡◌, refl, sym, ap, ◌∙◌}
use mathlib.Core.Bool.{Bool, true, false}
use Prim.Native.Nat.{ℕ, ◌-◌, ◌*◌, ◌/◌, ◌%◌, ◌^◌, ◌≤◌, ◌<◌}
use native.Mathlib.Omega.{arith}
use native.Mathlib.Nat.{mul-mod_left, mul-div_cancel, div-eq_of_lt, lt_of_lt_of_le}
use lib.Dec.{ltb, eqb}
use lib.IntN.{ℤ, pos}
use lib.Pow.{pow_pos, pow_mono}
use mir.Syntax.{signed, Width}
use mir.Val.{hbits}
use borrow.Author.Tests.{lt-ltb, le-ltb, eq-eqb, ne_eqb}
use Rattle.types.specs.declared.Integer.{Integer}
use Rattle.types.specs.declared.Refusal.{Refusal}
use Rattle.types.specs.Choice.{pick}
use Rattle.types.specs.declared.Refusal.TheVariants as R
use Rattle.types.specs.declared.Float.{Float}
use Rattle.types.specs.declared.Float.TheVariants as F
use Rattle.binary.specs.Formats.{Meaning, finite}
use Rattle.cast.specs.Froms.{from}
use Rattle.float.specs.Values.{float_means, smallness}
use Rattle.float_cast.specs.Integral.{one, takes, clamped, integral, as_integer}
use Rattle.float_cast.proofs.Clamps.{clamped_zero}
use Rattle.promises.specs.Told.{told_as_integer}
use Rattle.promises.specs.Casts.{clamp_width, IntegralRows}

takes_whole : (k n : ℕ) → takes k (n * one) ≡ true
takes_whole k n = by (ltb (n * one) (2 ^ (1074 - k)))
  where
    by : (t : Bool) → pick t true (eqb ((n * one) % one) 0) ≡ true
    by true = refl
    by false = eq-eqb ((n * one) % one) 0 (mul-mod_left n one)

whole_taken : (k : ℕ) (w : Width) (s : Bool) (n : ℕ) →
    integral k w (finite s (n * one)) ≡ Ok (from signed w (clamped (hbits w) s n))
unfolding integral
whole_taken k w s n = rw (takes_whole k n, mul-div_cancel n (pow_pos 1074)) refl

small_taken : (k : ℕ) (w : Width) (s : Bool) (m : ℕ) → m < 2 ^ (1074 - k) →
    integral k w (finite s m) ≡ Ok (from signed w (pos 0))
unfolding integral
small_taken k w s m h =
    let none : m / one ≡ 0 = div-eq_of_lt (lt_of_lt_of_le h (pow_mono {i = 1074 - k} {j = 1074} (omega arith))) in
    rw (lt-ltb m (2 ^ (1074 - k)) h, none)
    (ap (λ (z : ℤ). Ok (from signed w z)) (sym (clamped_zero (hbits w) s)))

fraction_refused : (k : ℕ) (w : Width) (s : Bool) (m : ℕ) → 2 ^ (1074 - k) ≤ m → (m % one ≡ 0 → ⊥) →
    integral k w (finite s m) ≡ Err R.ImpreciseCastWouldLoseData
unfolding integral
fraction_refused k w s m h n = rw (le-ltb m (2 ^ (1074 - k)) h, ne_eqb (m % one) 0 n) refl

-- both widths
as_integral : (x : Float) → as_integer x ≡ integral (smallness x) (clamp_width x) (float_means x)
unfolding as_integer
as_integral (F.F32 x) = refl
as_integral (F.F64 x) = refl

pub integral_rows : (x : Float) → IntegralRows x
unfolding integral
integral_rows x = record {
  whole = λ s n e. of e (whole_taken (smallness x) (clamp_width x) s n);
  small = λ s m e h. of e (small_taken (smallness x) (clamp_width x) s m h);
  fraction = λ s m e h f. of e (fraction_refused (smallness x) (clamp_width x) s m h f);
  infinity = λ s e. of e refl;
  not_a_number = λ s t e. of e refl;
}
  where
    of : {m : Meaning} {answer : Result Integer Refusal} → float_means x ≡ m →
        integral (smallness x) (clamp_width x) m ≡ answer → told_as_integer (as_integer x) ≡ told_as_integer answer
    of e h = ap told_as_integer (as_integral x ∙ ap (integral (smallness x) (clamp_width x)) e ∙ h)
