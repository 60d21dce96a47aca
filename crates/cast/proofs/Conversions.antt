-- The ends of the function under the casts: an integer's value, widened to 64 bits and converted, is its value converted.
-- Rests on the laws of ranges.
use Rattle.std.specs.Prelude.{Option, Result}
use Rattle.std.specs.Result.{result_ok}
use mathlib.Core.Path.{◌≡◌}
use Prim.Native.Nat.{ℕ, ◌≤◌, ◌<◌}
use native.Mathlib.Omega.{arith}
use borrow.Author.Rules.{rules}
use lib.Dec.{T, leb}
use lib.IntN.{ℤ, nat_abs}
use mir.Syntax.{Sign, signed, unsigned, w64}
use mir.Val.{bytes, SFits, to_z, of_z}
use mir.ValLaws.{to_z-of_z}
use Rattle.types.specs.declared.Integer.{Integer}
use Rattle.types.specs.Values.{value}
use Rattle.cast.specs.Variants.{sign, width}
use Rattle.cast.specs.Conversions.{by_sign, Narrowed}
use Rattle.cast.proofs.Arms.{through_is}

-- an integer x that the code found to be the variant y, which is no wider than n bytes
module _ {X E : Type 0} (of_signed : ℤ → Result X E → Type 0) (of_unsigned : ℕ → Result X E → Type 0) (n : ℕ)
    (x y : Integer) (e : x ≡ y) (q : Result X E) (r : Option X) (k : r ≡ result_ok q) (l : bytes (width y) ≤ n) where
  is_narrowed : (s : Sign) → sign y ≡ s → by_sign of_signed of_unsigned s (value y) q → Narrowed of_signed of_unsigned n x r
  unfolding Narrowed
  is_narrowed s p h = ((λ m. rw (e, p) (q, h, k)), λ m. absurd (passes (rw e at m)))
    where
      passes : n < bytes (width y) → ⊥
      passes m = omega arith

  -- signed, as the number stands and widened
  pub own_signed : sign y ≡ signed → width y ≡ w64 → SFits w64 (value y) →
      of_signed (to_z w64 (of_z w64 (value y))) q → Narrowed of_signed of_unsigned n x r
  own_signed p t f h = is_narrowed signed p (rw (to_z-of_z w64 (value y) f) at h)

  pub widened_signed : sign y ≡ signed → T (leb (bytes (width y)) 8) → SFits (width y) (value y) →
      (z : ℤ) → z ≡ to_z (width y) (of_z (width y) (value y)) →
      of_signed (to_z w64 (of_z w64 z)) q → Narrowed of_signed of_unsigned n x r
  widened_signed p t f z i h = is_narrowed signed p (rw (i, through_is (width y) w64 t (value y) f) at h)

  -- unsigned
  pub any_unsigned : sign y ≡ unsigned → (m : ℕ) → m ≡ nat_abs (value y) →
      of_unsigned m q → Narrowed of_signed of_unsigned n x r
  any_unsigned p m i h = is_narrowed unsigned p (rw i at h)

pub ruleset narrowed_ends = (own_signed, widened_signed, any_unsigned, rules)
