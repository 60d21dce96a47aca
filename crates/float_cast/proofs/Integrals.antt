-- From the whole number of a pattern to the integer: what `whole_from` answers decides, and its sign and width follow.
use Rattle.std.specs.Prelude.{Result, Ok, Err, Option, Some, None}
use mathlib.Core.Path.{◌≡◌, refl, sym, ap, ◌∙◌}
use mathlib.Core.Bool.{Bool, true, false, false≢true}
use Prim.Native.Nat.{ℕ, ◌+◌, ◌-◌, ◌/◌, ◌%◌, ◌^◌, ◌≤◌, ◌<◌}
use native.Mathlib.Nat.{div-eq_of_lt, lt_of_lt_of_le}
use native.Mathlib.Omega.{arith}
use lib.Dec.{T, ltb, eqb}
use lib.IntN.{ℤ}
use lib.Pow.{pow_mono}
use lib.Ieee.{Float, binary64, fits, to_bits}
use mir.Syntax.{signed, Width, w32, w64}
use mir.Val.{SFits, hbits, to_z, of_z}
use mir.ValLaws.{to_z-of_z}
use borrow.Author.Tests.{lt-ltb, le-ltb, ltb-true}
use Rattle.types.specs.declared.Refusal.{Refusal}
use Rattle.types.specs.Choice.{pick}
use Rattle.types.specs.declared.Float as Variant
use Rattle.types.specs.declared.Float.TheVariants as F
use Rattle.types.specs.declared.Refusal.TheVariants as R
use Rattle.types.specs.declared.Integer.{Integer}
use Rattle.binary.specs.Formats.{double, negative, exponent, fraction, magnitude}
use Rattle.binary.specs.Formats.{Meaning, finite, infinite, nan, meaning}
use Rattle.binary.specs.Floats.{float_meaning, plain}
use Rattle.binary.proofs.Patterns.{fraction_lt, Reading, is_finite, is_infinite, is_nan_lem, reading}
use Rattle.binary.proofs.Values.{to_bits_means}
use Rattle.float.specs.Values.{float_value}
use Rattle.cast.specs.Froms.{from}
use Rattle.float_cast.specs.Integral.{one, least, clamped, integral, as_integer}
use Rattle.float_cast.specs.Steps.{most, whole_of, whole_from}
use Rattle.float_cast.proofs.Clamps.{clamped-least}
use Rattle.float_cast.proofs.Wholes.{field_below, field_above}

-- ---- the whole number of a pattern

clash : (e o : ℕ) → e < o → e ≡ o → ⊥
clash e o h q = omega arith

module _ (b small : ℕ) (some : 0 < small) where
  from_small : (s : Bool) (m : ℕ) → m < 2 ^ (51 + small) → whole_from small (finite s m) ≡ Some 0
  unfolding whole_from
  from_small s m h = rw (lt-ltb m (2 ^ (51 + small)) h)

  from_large : (s : Bool) (m : ℕ) → 2 ^ (51 + small) ≤ m → whole_from small (finite s m) ≡ whole_of m
  unfolding whole_from
  from_large s m h = rw (le-ltb m (2 ^ (51 + small)) h)

  pub small_number : exponent double b < small → small < 2047 → Some 0 ≡ whole_from small (meaning double b)
  small_number h l = go (reading double b)
    where
      late : (e s : ℕ) → e < s → s < 2047 → e ≡ 2047 → ⊥
      late e s h l q = omega arith

      go : Reading double b → Some 0 ≡ whole_from small (meaning double b)
      go (is_finite e m) =
          sym (ap (whole_from small) m
          ∙ from_small (negative double b) (magnitude double (exponent double b) (fraction double b))
          (field_below (fraction double b) small (fraction_lt double b) some (exponent double b) h))
      go (is_infinite e z m) = absurd (late (exponent double b) small h l e)
      go (is_nan_lem e z m) = absurd (late (exponent double b) small h l e)

  pub no_number : exponent double b ≡ 2047 → None ≡ whole_from small (meaning double b)
  unfolding whole_from
  no_number h = go (reading double b)
    where
      go : Reading double b → None ≡ whole_from small (meaning double b)
      go (is_finite e m) = absurd (clash (exponent double b) 2047 e h)
      go (is_infinite e z m) = sym (ap (whole_from small) m)
      go (is_nan_lem e z m) = sym (ap (whole_from small) m)

  pub large_number : (r : Option ℕ) → small ≤ exponent double b → (exponent double b ≡ 2047 → ⊥) →
      r ≡ whole_of (magnitude double (exponent double b) (fraction double b)) → r ≡ whole_from small (meaning double b)
  large_number r h k q = go (reading double b)
    where
      go : Reading double b → r ≡ whole_from small (meaning double b)
      go (is_finite e m) =
          q
          ∙ sym (ap (whole_from small) m
          ∙ from_large (negative double b) (magnitude double (exponent double b) (fraction double b))
          (field_above (fraction double b) small (fraction_lt double b) some (exponent double b) h))
      go (is_infinite e z m) = absurd (k e)
      go (is_nan_lem e z m) = absurd (k e)

-- ---- the integer

lost_number : (n : ℕ) → None ≡ Some n → ⊥
lost_number n h = false≢true cc

-- a whole number, clamped and handed to `From`
abbrev handed : Width → Bool → ℕ → Result Integer Refusal
handed w s n = Ok (from signed w (clamped (hbits w) s n))

abbrev refused : Result Integer Refusal
refused = Err R.ImpreciseCastWouldLoseData

abbrev whole_if : Bool → Bool → ℕ → Option ℕ
whole_if small whole m = pick small (Some 0) (pick whole (Some (least (m / one) most)) None)

module _ (k small : ℕ) (w : Width) (bound : 51 + small ≡ 1074 - k) (room : 2 ^ hbits w ≤ most) where
  none : (m : ℕ) → m < 2 ^ (51 + small) → m / one ≡ 0
  none m h = div-eq_of_lt (lt_of_lt_of_le h (pow_mono {i = 51 + small} {j = 1074} (omega arith)))

  taken : (s : Bool) (m n : ℕ) (a b : Bool) → ltb m (2 ^ (51 + small)) ≡ a → whole_if a b m ≡ Some n →
      handed w s n ≡ pick (pick a true b) (handed w s (m / one)) refused
  taken s m n true b p h = cc (none m (ltb-true m (2 ^ (51 + small)) p))
  taken s m n false true p h = cc (clamped-least (hbits w) (m / one) most s room)
  taken s m n false false p h = cc

  lost : (s : Bool) (m : ℕ) (a b : Bool) → whole_if a b m ≡ None →
      refused ≡ pick (pick a true b) (handed w s (m / one)) refused
  lost s m true b h = cc
  lost s m false true h = cc
  lost s m false false h = refl

  finite_is : (s : Bool) (m : ℕ) →
      pick (pick (ltb m (2 ^ (51 + small))) true (eqb (m % one) 0)) (handed w s (m / one)) refused ≡
      integral k w (finite s m)
  unfolding integral
  finite_is s m = rw bound

  meant_number : (s : Bool) (m n : ℕ) →
      whole_from small (finite s m) ≡ Some n → handed w s n ≡ integral k w (finite s m)
  unfolding whole_from whole_of
  meant_number s m n h = taken s m n (ltb m (2 ^ (51 + small))) (eqb (m % one) 0) refl h ∙ finite_is s m

  meant_lost : (m : Meaning) → whole_from small m ≡ None → refused ≡ integral k w m
  unfolding whole_from whole_of integral
  meant_lost (finite s m) h = lost s m (ltb m (2 ^ (51 + small))) (eqb (m % one) 0) h ∙ finite_is s m
  meant_lost (infinite s) h = refl
  meant_lost (nan s t) h = refl

  no_infinite : (s : Bool) (n : ℕ) → whole_from small (infinite s) ≡ Some n → ⊥
  unfolding whole_from
  no_infinite s n h = lost_number n h

  no_nan : (s : Bool) (t n : ℕ) → whole_from small (nan s t) ≡ Some n → ⊥
  unfolding whole_from
  no_nan s t n h = lost_number n h

  plain-integral : (m : Meaning) → integral k w m ≡ integral k w (plain m)
  unfolding integral
  plain-integral (finite s m) = refl
  plain-integral (infinite s) = refl
  plain-integral (nan s t) = refl

  -- a float by its pattern
  module _ (x : Float) (f : T (fits binary64 x)) (b : ℕ) (e : b ≡ to_bits binary64 x) (r : Option ℕ)
      (a : r ≡ whole_from small (meaning double b)) where
    means : integral k w (meaning double b) ≡ integral k w (float_meaning x)
    means =
        plain-integral (meaning double b) ∙ ap (λ (n : ℕ). integral k w (plain (meaning double n))) e
        ∙ ap (integral k w) (to_bits_means binary64 x f)

    -- it has a whole number, which is clamped and handed to `From`
    pub integer_taken_lem : (n : ℕ) (z : ℤ) (i : Integer) → r ≡ Some n → SFits w z →
        z ≡ clamped (hbits w) (negative double b) n → i ≡ from signed w (to_z w (of_z w z)) →
        Ok i ≡ integral k w (float_meaning x)
    integer_taken_lem n z i h s q o =
        ap Ok o ∙ ap (λ (y : ℤ). Ok (from signed w y)) (to_z-of_z w z s ∙ q)
        ∙ go (reading double b) ∙ means
      where
        found : whole_from small (meaning double b) ≡ Some n
        found = sym a ∙ h

        go : Reading double b → handed w (negative double b) n ≡ integral k w (meaning double b)
        go (is_finite o m) =
            meant_number (negative double b) (magnitude double (exponent double b) (fraction double b)) n
            (sym (ap (whole_from small) m) ∙ found) ∙ ap (integral k w) (sym m)
        go (is_infinite o z m) = absurd (no_infinite (negative double b) n (sym (ap (whole_from small) m) ∙ found))
        go (is_nan_lem o z m) =
            absurd (no_nan (negative double b) (fraction double b) n (sym (ap (whole_from small) m) ∙ found))

    -- it has none
    pub integer_lost : r ≡ None → Err R.ImpreciseCastWouldLoseData ≡ integral k w (float_meaning x)
    integer_lost h = meant_lost (meaning double b) (sym a ∙ h) ∙ means

-- an F64 by its value, and an F32 by the value that it carries
module _ (x : Variant.Float) (v : Float) (r : Result Integer Refusal) where
  pub double_integer : x ≡ F.F64 v → r ≡ integral 52 w64 (float_meaning v) → r ≡ as_integer x
  unfolding as_integer
  double_integer is e = rw is e

  pub single_integer : (y : Float) →
      x ≡ F.F32 v → y ≡ float_value x → r ≡ integral 23 w32 (float_meaning y) → r ≡ as_integer x
  unfolding as_integer
  single_integer y is c e = rw is (rw (c, is) at e)
