-- A binary64 value by its pattern: it has an equal binary32 value exactly if its pattern narrows.
use Rattle.std.specs.Prelude.{Ok, Err, Option, Some, None}
use mathlib.Core.Path.{◌≡◌, refl, sym, ap, ◌∙◌, subst}
use Prim.Native.Nat.{ℕ, ◌*◌, ◌<◌}
use lib.Dec.{T}
use lib.Ieee.{Float, binary32, binary64, fits, of_bits, to_bits}
use lib.Ieee.Bits.{of_bits-to_bits, to_bits-lt}
use Rattle.types.specs.declared.Refusal.TheVariants as R
use Rattle.binary.specs.Formats.{Layout, single, double, sign_weight, Meaning, finite, infinite, nan, meaning}
use Rattle.binary.specs.Conversions.{narrowed, narrowed_meaning}
use Rattle.binary.specs.Floats.{float_meaning, plain}
use Rattle.binary.proofs.Narrowing.{narrowed_by}
use Rattle.binary.proofs.Values.{to_bits_means, narrowed_value}
use Rattle.float.specs.Values.{if_equal}

-- the sign and the payload of a NaN say nothing
plain_narrowed : (to : Layout) (m : Meaning) → narrowed_meaning to (plain m) ≡ narrowed_meaning to m
plain_narrowed to (finite s m) = refl
plain_narrowed to (infinite s) = refl
plain_narrowed to (nan s t) = refl

module _ (x : Float) (F : T (fits binary64 x)) where
  pub narrowed_means : narrowed double single (to_bits binary64 x) ≡ narrowed_meaning single (float_meaning x)
  narrowed_means =
      narrowed_by double single (to_bits binary64 x) (meaning double (to_bits binary64 x)) refl
      ∙ sym (plain_narrowed single (meaning double (to_bits binary64 x)))
      ∙ ap (narrowed_meaning single) (to_bits_means binary64 x F)

  own : (b : ℕ) → b ≡ to_bits binary64 x → b < 2 * sign_weight double
  own b e = subst (λ (n : ℕ). n < 2 * sign_weight double) (sym e) (to_bits-lt binary64 x F)

  module _ (b : ℕ) (r : Option ℕ) (e : b ≡ to_bits binary64 x) (a : r ≡ narrowed double single b) where
    pub narrow_taken : (q : ℕ) (v : Float) → r ≡ Some q → v ≡ of_bits binary32 q →
        Ok v ≡ if_equal x (narrowed_meaning single (float_meaning x))
    narrow_taken q v h w =
        let n : narrowed double single b ≡ Some q = sym a ∙ h in
        ap Ok (w ∙ narrowed_value b q (own b e) n ∙ ap (of_bits binary64) e ∙ of_bits-to_bits binary64 x F)
        ∙ ap (if_equal x) (sym n ∙ ap (narrowed double single) e ∙ narrowed_means)

    pub narrow_lost : r ≡ None →
        Err R.ImpreciseCastWouldLoseData ≡ if_equal x (narrowed_meaning single (float_meaning x))
    narrow_lost h =
        ap (if_equal x) (sym (sym a ∙ h) ∙ ap (narrowed double single) e
        ∙ narrowed_means)
