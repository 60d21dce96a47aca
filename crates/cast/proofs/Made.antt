-- What `From` makes: an integer of the value it was given, at a variant of the least width that holds the value at all.
-- So a cast of it goes by value: it is refused exactly if the value lies outside the target's range, and otherwise
-- comes out as that value.
use Rattle.std.specs.Prelude.{Err}
use mathlib.Core.Path.{◌≡◌, refl, ◌∙◌, sym, subst}
use mathlib.Core.Bool.{Bool, true, false, ◌&&◌, ◌||◌, and-false, false≢true}
use mathlib.Core.Logic.{◌⊎◌, inl, inr}
use native.Mathlib.Nat.{le_refl}
use lib.Dec.{T, leb, ltb, le→leb}
use lib.Ieee.Bits.{is_true}
use lib.IntN.{ℤ, pos, negsuc}
use mir.Syntax.{Sign, unsigned, signed, Width, w8, w16, w32, w64, w128}
use mir.Val.{bytes}
use Rattle.types.specs.Choice.{pick}
use Rattle.types.specs.declared.Integer.{Integer}
use Rattle.types.specs.declared.Integer.TheVariants as I
use Rattle.types.specs.declared.Refusal.{Refusal}
use Rattle.types.specs.declared.Refusal.TheVariants as R
use Rattle.types.specs.Values.{value}
use Rattle.cast.specs.Variants.{width, variant, in_range}
use Rattle.cast.specs.Casts.{castable, cast, as_u8}
use Rattle.cast.specs.Froms.{from}
use Rattle.cast.proofs.Places.{every_width, every}
use Rattle.cast.proofs.Ranges.{wider, wider_unsigned, variant-width, variant-value}
use Rattle.cast.proofs.Halves.{half, from-half, from_crossed, from_own}

-- ---- `From` makes a variant that holds the value, of the least width that holds it

-- what holds the value at all, is tried
as_tried : (s : Sign) (w : Width) (z : ℤ) → in_range s w z ≡ true → (r : Sign) (v : Width) → in_range r v z ≡ true →
    (in_range s v z ≡ true) ⊎ (in_range unsigned v z ≡ true)
as_tried s w z h unsigned v k = inr k
as_tried signed w z h signed v k = inl k
as_tried unsigned w (pos n) h signed v k = inr (wider_unsigned v v (le→leb (bytes v) (bytes v) (le_refl (bytes v))) n k)
as_tried unsigned w (negsuc n) h signed v k = absurd (false≢true h)

-- a width is no wider than half of another, or at least the other
abbrev next_to : Width → Width → Bool
next_to w v = leb (bytes v) (bytes (half w)) || leb (bytes w) (bytes v)

next_to_lem : (w v : Width) → T (next_to w v)
next_to_lem w v = every (next_to w) (every (λ (u : Width). every_width (next_to u)) tt w) v

either : (a b : Bool) → T (a || b) → (T a → ⊥) → T b
either true b t n = absurd (n t)
either false b t n = t

-- what holds of every such variant, holds of what `From` makes
module _ (P : Integer → Type 0) (z : ℤ)
    (f : (t : Sign) (u : Width) → in_range t u z ≡ true →
    ((r : Sign) (v : Width) → in_range r v z ≡ true → T (leb (bytes u) (bytes v))) → P (variant t u z)) where
  narrowest : (s : Sign) → in_range s w8 z ≡ true → P (from s w8 z)
  unfolding from
  narrowest s h = f s w8 h (λ r v i. every (λ (u : Width). leb 1 (bytes u)) tt v)

  -- from half a width to the width
  step : (s : Sign) (w : Width) → T (ltb (bytes (half w)) (bytes w)) → in_range s w z ≡ true →
      ((t : Sign) → in_range t (half w) z ≡ true → P (from t (half w) z)) → P (from s w z)
  step s w n h smaller = by (in_range s (half w) z) (in_range unsigned (half w) z) refl refl
    where
      crossed : (t : Sign) → in_range t (half w) z ≡ false → in_range unsigned (half w) z ≡ true → P (from t w z)
      crossed signed i k = subst P (from_crossed w n z i k) (smaller unsigned k)
      crossed unsigned i k = absurd (false≢true (sym i ∙ k))

      none : in_range s (half w) z ≡ false → in_range unsigned (half w) z ≡ false →
          (in_range s (half w) z ≡ true) ⊎ (in_range unsigned (half w) z ≡ true) → ⊥
      none i k (inl e) = false≢true (sym i ∙ e)
      none i k (inr e) = false≢true (sym k ∙ e)

      least : (in_range s (half w) z ≡ false) → (in_range unsigned (half w) z ≡ false) →
          (r : Sign) (v : Width) → in_range r v z ≡ true → T (leb (bytes w) (bytes v))
      least i k r v j =
          either (leb (bytes v) (bytes (half w))) (leb (bytes w) (bytes v)) (next_to_lem w v)
          (λ t. none i k (as_tried s w z h r (half w) (wider r v (half w) t z j)))

      by : (a b : Bool) → in_range s (half w) z ≡ a → in_range unsigned (half w) z ≡ b → P (from s w z)
      by true b i k = subst P (from-half s w z i) (smaller s i)
      by false true i k = crossed s i k
      by false false i k = subst P (from_own s w n z i k) (f s w h (least i k))

  from_by : (s : Sign) (w : Width) → in_range s w z ≡ true → P (from s w z)
  from_by s w8 h = narrowest s h
  from_by s w16 h = step s w16 tt h narrowest
  from_by s w32 h = step s w32 tt h (λ t i. step t w16 tt i narrowest)
  from_by s w64 h = step s w64 tt h (λ t i. step t w32 tt i (λ u j. step u w16 tt j narrowest))
  from_by s w128 h =
      step s w128 tt h (λ t i. step t w64 tt i (λ u j. step u w32 tt j (λ r k. step r w16 tt k narrowest)))

pub from-value : (s : Sign) (w : Width) (z : ℤ) → in_range s w z ≡ true → value (from s w z) ≡ z
from-value s w z h = from_by (λ (x : Integer). value x ≡ z) z (λ t u i l. variant-value t u z i) s w h

-- x is no wider than v
abbrev pub Within : Width → Integer → Type 0
Within v x = T (leb (bytes (width x)) (bytes v))

pub from_least : (s : Sign) (w : Width) (z : ℤ) → in_range s w z ≡ true → (t : Sign) (v : Width) → in_range t v z ≡ true →
    Within v (from s w z)
from_least s w z h t v k = from_by (Within v) z (λ r u i l. rw (variant-width r u z) (l t v k)) s w h

-- ---- so a cast of what `From` made goes by value, for every sign and width of the number and of the target

from-castable : (s : Sign) (w : Width) (z : ℤ) → in_range s w z ≡ true → (t : Sign) (v : Width) →
    castable t v (from s w z) ≡ in_range t v z
from-castable s w z h t v = rw (from-value s w z h) (by (in_range t v z) refl)
  where
    by : (b : Bool) → in_range t v z ≡ b → (leb (bytes (width (from s w z))) (bytes v) && b) ≡ b
    by true e = simp (is_true (leb (bytes (width (from s w z))) (bytes v)) (from_least s w z h t v e))
    by false e = and-false (leb (bytes (width (from s w z))) (bytes v))

pub cast-from : {X : Type 0} (t : Sign) (v : Width) (f : ℤ → X) (g : Refusal → X) (s : Sign) (w : Width) (z : ℤ) →
    in_range s w z ≡ true → cast t v f g (from s w z) ≡ pick (in_range t v z) (f z) (g R.ImpreciseCastWouldLoseData)
unfolding cast
cast-from t v f g s w z h = rw (from-castable s w z h t v, from-value s w z h) refl

-- "So I16(5) refuses `as_u8`": an integer that `From` did not make is cast by its variant
pub by_variant : as_u8 (I.I16 (pos 5)) ≡ Err R.ImpreciseCastWouldLoseData
unfolding cast
by_variant = refl
