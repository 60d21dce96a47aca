-- The ends of the writers of numbers: the value's size as it was tested, what the writer that was called wrote, and
-- that it is the value's bytes.
use mathlib.Core.Path.{◌≡◌, ◌∙◌, ap}
use mathlib.Core.Bool.{true}
use mathlib.Core.List.{◌∷◌}
use Prim.Native.Nat.{ℕ, ◌+◌, ◌-◌, ◌/◌, ◌^◌, ◌≤◌, ◌<◌}
use borrow.Author.Rules.{rules}
use lib.Dec.{T, leb}
use lib.IntN.{ℤ}
use lib.Signed.{mag}
use mir.Syntax.{Width, w64}
use mir.Val.{SFits, hbits, to_z, of_z}
use mir.ValLaws.{to_z-of_z}
use mir.Facts.{sfits_widen}
use Rattle.little.specs.Le.{to_le}
use Rattle.little.specs.Twos.{twos_bits}
use Rattle.little.specs.Counts.{holds_s}
use Rattle.little.proofs.Two.{mag_held, mag_not_held}
use Rattle.writers.specs.Bytes.{signed_bytes}
use Rattle.writers.proofs.Wrote.{writes}
use Rattle.writers.proofs.Levels.{Count, smaller, signed_level, unsigned_level, unsigned_first}
use Rattle.writers.proofs.Levels.{unsigned_held, unsigned_not_held}

-- a test of the magnitude is one of the value
module _ (z : ℤ) (bound size : ℕ) where
  pub smaller_value : size < bound → size ≡ mag z → mag z < bound
  smaller_value h m = rw m at h

  pub larger_value : bound ≤ size → size ≡ mag z → bound ≤ mag z
  larger_value h m = rw m at h

-- A signed value of width w is handed on as the machine has it, `to_z w (of_z w z)`, and is still the value.
module _ (w : Width) (z : ℤ) (f : SFits w z) where
  narrowed : (u : Width) → SFits u z → to_z u (of_z u (to_z w (of_z w z))) ≡ z
  narrowed u g = ap (λ (x : ℤ). to_z u (of_z u x)) (to_z-of_z w z f) ∙ to_z-of_z u z g

  -- its magnitude, taken at 64 bits
  pub magnitude_widened : (size : ℕ) → T (leb (hbits w) 63) → size ≡ mag (to_z w64 (of_z w64 (to_z w (of_z w z)))) →
      size ≡ mag z
  magnitude_widened size t m = m ∙ ap mag (narrowed w64 (sfits_widen t f))

  pub magnitude_same : (size : ℕ) → size ≡ mag (to_z w (of_z w z)) → size ≡ mag z
  magnitude_same size m = m ∙ ap mag (to_z-of_z w z f)

  -- it fits a wider width, and a narrower one that holds its magnitude
  pub fits_wider : (u : Width) → T (leb (hbits w) (hbits u)) → SFits u (to_z w (of_z w z))
  fits_wider u t = rw (to_z-of_z w z f) (sfits_widen t f)

  pub fits_narrower : (u : Width) → mag z < 2 ^ hbits u → SFits u (to_z w (of_z w z))
  fits_narrower u h = rw (to_z-of_z w z f) (record { sfits = h })

  -- the writer that was called was given the value, at a narrower width or at this one
  pub given_narrower : (u : Width) → mag z < 2 ^ hbits u → signed_bytes (to_z u (of_z u (to_z w (of_z w z)))) ≡ signed_bytes z
  given_narrower u h = ap signed_bytes (narrowed u (record { sfits = h }))

  pub given_same : signed_bytes (to_z w (of_z w z)) ≡ signed_bytes z
  given_same = ap signed_bytes (to_z-of_z w z f)

  pub held_same : (n : ℕ) → mag z < 256 ^ n / 2 → holds_s n (to_z w (of_z w z)) ≡ true
  held_same n h = ap (holds_s n) (to_z-of_z w z f) ∙ mag_held n z h

  -- this level's own bytes, of the bits of all of its width
  pub signed_here : (n k first bits : ℕ) → bits ≡ twos_bits k (to_z w (of_z w z)) → Count n → 256 ^ smaller n / 2 ≤ mag z →
      mag z < 256 ^ n / 2 → n ≤ k → first ≡ 32 + (n - 1) → first ∷ to_le n bits ≡ signed_bytes z
  signed_here n k first bits b count past h le e =
      signed_level n count k z bits first (b ∙ ap (twos_bits k) (to_z-of_z w z f)) past h le e

pub ruleset signed_ends = (
  smaller_value,
  larger_value,
  magnitude_widened,
  magnitude_same,
  fits_wider,
  fits_narrower,
  given_narrower,
  given_same,
  held_same,
  mag_held,
  mag_not_held,
  signed_here,
  writes,
  rules,
)

pub ruleset unsigned_ends = (
  unsigned_level,
  unsigned_first,
  unsigned_held,
  unsigned_not_held,
  writes,
  rules,
)
