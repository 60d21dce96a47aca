-- The casts of an integer to another answer by document 01's words, for demand 2: one law over the sign, the width and
-- what is told.
use Rattle.std.specs.Prelude.{Ok, Err}
use mathlib.Core.Path.{◌≡◌, refl, ◌∙◌, ap}
use mathlib.Core.Bool.{Bool, true, false, ◌&&◌, false≢true}
use mathlib.Core.List.{List, [], ◌∷◌}
use lib.Dec.{leb}
use lib.IntN.{ℤ, pos, negsuc, nat_abs}
use mir.Syntax.{Sign, signed, unsigned, Width, w8, w16, w32, w64, w128}
use mir.Val.{bytes}
use borrow.Author.Tests.{le-leb, lt-leb}
use Rattle.types.specs.Choice.{pick}
use Rattle.types.specs.Values.{value, wide_of}
use Rattle.types.specs.declared.Refusal.{Refusal}
use Rattle.types.specs.declared.Refusal.TheVariants as R
use Rattle.cast.specs.Variants.{width, in_range}
use Rattle.cast.specs.Casts.{cast}
use Rattle.cast.proofs.Made.{cast-from}
use Rattle.promises.specs.Told.{Told, told, told_as_i8, told_as_i16, told_as_i32, told_as_i64, told_as_u8, told_as_u16}
use Rattle.promises.specs.Told.{told_as_u32, told_as_u64, told_as_wide}
use Rattle.promises.specs.Casts.{CastRows, EveryCast, itself, in_words}

module _ {X : Type 0} (sort : Sign) (target : Width) (taken : ℤ → X) (refused : Refusal → X) (tell : X → Told)
    (numbers : ℤ → List ℤ)
    (in-range : (z : ℤ) → in_range sort target z ≡ true → tell (taken z) ≡ told 0 (numbers z))
    (lost : tell (refused R.ImpreciseCastWouldLoseData) ≡ told 8 []) where
  pub cast_rows : CastRows sort target (λ x. tell (cast sort target taken refused x)) numbers
  unfolding cast
  cast_rows = record {
    answered = λ x h k. simp (le-leb (bytes (width x)) (bytes target) h, k) (in-range (value x) k);
    wider = λ x h. simp (lt-leb (bytes (width x)) (bytes target) h) lost;
    outside = λ x k. simp (k, never (leb (bytes (width x)) (bytes target))) lost;
    of_from = λ s w z h. ap tell (cast-from sort target taken refused s w z h) ∙ by z (in_range sort target z) refl;
  }
    where
      never : (b : Bool) → (b && false) ≡ false
      never true = refl
      never false = refl

      by : (z : ℤ) (b : Bool) → in_range sort target z ≡ b →
          tell (pick b (taken z) (refused R.ImpreciseCastWouldLoseData)) ≡ pick b (told 0 (numbers z)) (told 8 [])
      by z true e = in-range z e
      by z false e = lost

-- a number that an unsigned variant holds is its magnitude
pub natural : (w : Width) (z : ℤ) → in_range unsigned w z ≡ true → told 0 (pos (nat_abs z) ∷ []) ≡ told 0 (itself z)
natural w (pos n) h = refl
natural w (negsuc n) h = absurd (false≢true h)

pub every_cast : EveryCast
every_cast = record {
  as_i8_rows = cast_rows signed w8 Ok Err told_as_i8 itself (λ z h. refl) refl;
  as_i16_rows = cast_rows signed w16 Ok Err told_as_i16 itself (λ z h. refl) refl;
  as_i32_rows = cast_rows signed w32 Ok Err told_as_i32 itself (λ z h. refl) refl;
  as_i64_rows = cast_rows signed w64 Ok Err told_as_i64 itself (λ z h. refl) refl;
  as_i128_rows = cast_rows signed w128 (λ z. Ok (wide_of z)) Err told_as_wide in_words (λ z h. refl) refl;
  as_u8_rows =
      cast_rows unsigned w8 (λ z. Ok (nat_abs z)) Err told_as_u8 itself (natural w8) refl;
  as_u16_rows =
      cast_rows unsigned w16 (λ z. Ok (nat_abs z)) Err told_as_u16 itself (natural w16) refl;
  as_u32_rows =
      cast_rows unsigned w32 (λ z. Ok (nat_abs z)) Err told_as_u32 itself (natural w32) refl;
  as_u64_rows =
      cast_rows unsigned w64 (λ z. Ok (nat_abs z)) Err told_as_u64 itself (natural w64) refl;
  as_u128_rows = cast_rows unsigned w128 (λ z. Ok (wide_of z)) Err told_as_wide in_words (λ z h. refl) refl;
}
