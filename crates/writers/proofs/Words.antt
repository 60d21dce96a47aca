-- A value of two words: whether the low one alone holds it, and what is written where it does and where it does not.
-- First over the counts of both words, since the numbers of 16 bytes are too large to be computed with.
use mathlib.Core.Path.{◌≡◌, refl, ◌∙◌, sym, ap}
use mathlib.Core.Bool.{Bool, true, false}
use mathlib.Core.List.{List, ◌∷◌, ◌++◌}
use Prim.Native.Nat.{ℕ, suc, ◌+◌, ◌*◌, ◌/◌, ◌^◌, ◌<◌, ◌≤◌, ◌-◌}
use native.Mathlib.Omega.{arith}
use native.Mathlib.Nat.{mul-suc, mul-le-mul_left}
use lib.Dec.{ltb, leb, lit<, lit≤}
use lib.IntN.{ℤ}
use lib.Pow.{pow-add}
use mir.Syntax.{w64}
use mir.Val.{SFits, to_z, of_z}
use mir.ValLaws.{to_z-of_z}
use borrow.Author.Rules.{rules}
use borrow.Author.Tests.{ltb-true, ltb-false, leb-true, leb-false}
use Rattle.types.specs.Values.{joined, joined_signed}
use Rattle.types.specs.declared.Wide.{Wide}
use Rattle.types.proofs.Values.{low_first}
use Rattle.little.specs.Le.{from_le, to_le}
use Rattle.little.specs.Twos.{twos, twos_bits}
use Rattle.little.specs.Counts.{holds_s}
use Rattle.little.proofs.Width.{to_words, to_low, from_to_fits}
use Rattle.little.proofs.Two.{twos_held, twos_bits_lem, bits_twos, bits_lt, low_bytes, held_mag, not_held_mag, machine_twos}
use Rattle.little.proofs.Words.{near_zero, near_ones, far_zero, far_ones, far_between}
use Rattle.writers.specs.Bytes.{signed_bytes, unsigned_bytes}
use Rattle.writers.proofs.Wrote.{writes}
use Rattle.writers.proofs.Levels.{Count, signed_level, unsigned_level}

wide_lt : (n d low high : ℕ) → low < 256 ^ n → high < 256 ^ d → low + 256 ^ n * high < 256 ^ (n + d)
wide_lt n d low high l h =
    let most : 256 ^ n * suc high ≤ 256 ^ n * 256 ^ d = mul-le-mul_left (256 ^ n) h in
    let one : 256 ^ n * suc high ≡ 256 ^ n * high + 256 ^ n = mul-suc (256 ^ n) high in
    let all : 256 ^ (n + d) ≡ 256 ^ n * 256 ^ d = pow-add 256 n d in
    omega arith

module _ (n d low high : ℕ) (0<n : 0 < n) (0<d : 0 < d) (fits : low < 256 ^ n) where
  zeros : (t : Bool) → ltb low (256 ^ n / 2) ≡ t → high ≡ 0 → t ≡ holds_s n (twos (n + d) (low + 256 ^ n * high))
  zeros true e z = sym (rw (near_zero n d low high 0<n 0<d fits z (ltb-true _ _ e)) (twos_held n low 0<n fits))
  zeros false e z = sym (far_zero n d low high 0<n 0<d fits z (ltb-false _ _ e))

  ones : (t : Bool) → leb (256 ^ n / 2) low ≡ t → high ≡ 256 ^ d - 1 →
      t ≡ holds_s n (twos (n + d) (low + 256 ^ n * high))
  ones true e o = sym (rw (near_ones n d low high 0<n 0<d fits o (leb-true _ _ e)) (twos_held n low 0<n fits))
  ones false e o = sym (far_ones n d low high 0<n 0<d fits o (leb-false _ _ e))

  -- where the low word holds the value, its own two's complement is the value
  held_low : high < 256 ^ d → holds_s n (twos (n + d) (low + 256 ^ n * high)) ≡ true →
      twos n low ≡ twos (n + d) (low + 256 ^ n * high)
  held_low h held =
      let v : ℕ = low + 256 ^ n * high in
      let z : ℤ = twos (n + d) v in
      let all : twos_bits (n + d) z ≡ v = bits_twos (n + d) v (wide_lt n d low high fits h) in
      let bits : to_le n (twos_bits n z) ≡ to_le n low =
      sym (low_bytes n (n + d) z (omega arith) held) ∙ ap (to_le n) all ∙ to_low n n low high (omega arith) in
      let back : from_le (to_le n (twos_bits n z)) ≡ twos_bits n z = from_to_fits n (twos_bits n z) (bits_lt n z held) in
      let same : twos_bits n z ≡ low = sym back ∙ ap from_le bits ∙ from_to_fits n low fits in
      ap (twos n) (sym same) ∙ twos_bits_lem n z held

-- where it does not, both words are stored
sixteen : Count 16
sixteen = (refl, lit< tt, lit≤ tt)

module _ (low high : ℕ) (l : low < 256 ^ 8) (h : high < 256 ^ 8) where
  signed_words : holds_s 8 (twos 16 (low + 256 ^ 8 * high)) ≡ false →
      47 ∷ (to_le 8 low ++ to_le 8 high) ≡ signed_bytes (twos 16 (low + 256 ^ 8 * high))
  signed_words past =
      let v : ℕ = low + 256 ^ 8 * high in
      let fits : v < 256 ^ 16 = wide_lt 8 8 low high l h in
      let held = held_mag 16 (twos 16 v) (twos_held 16 v (lit< tt) fits) in
      let above = not_held_mag 8 (twos 16 v) past in
      ap (λ (b : List ℕ). 47 ∷ b) (sym (to_words 8 8 low high l))
      ∙ signed_level 16 sixteen 16 (twos 16 v) v 47 (sym (bits_twos 16 v fits)) above held (lit≤ tt) refl

  unsigned_words : 0 < high → 79 ∷ (to_le 8 low ++ to_le 8 high) ≡ unsigned_bytes (low + 256 ^ 8 * high)
  unsigned_words some =
      ap (λ (b : List ℕ). 79 ∷ b) (sym (to_words 8 8 low high l))
      ∙ unsigned_level 16 sixteen (low + 256 ^ 8 * high) 79 (omega arith) (wide_lt 8 8 low high l h) refl

-- The ends of `low_word_holds`, `write_i128` and `write_u128`.
module _ (w : Wide) (l : w.lo < 2 ^ 64) (h : w.hi < 2 ^ 64) where
  as_twos : joined_signed w ≡ twos 16 (w.lo + 256 ^ 8 * w.hi)
  as_twos = machine_twos (joined w) ∙ ap (twos 16) (low_first w)

  -- nothing above the low word: it holds the value if its sign bit is clear
  pub zeros_above : w.hi ≡ 0 → ltb w.lo (2 ^ 63) ≡ holds_s 8 (joined_signed w)
  zeros_above z = rw as_twos (zeros 8 8 w.lo w.hi (lit< tt) (lit< tt) l (ltb w.lo (2 ^ 63)) refl z)

  -- all ones above it: if its sign bit is set
  pub ones_above : w.hi ≡ 2 ^ 64 - 1 → leb (2 ^ 63) w.lo ≡ holds_s 8 (joined_signed w)
  ones_above o = rw as_twos (ones 8 8 w.lo w.hi (lit< tt) (lit< tt) l (leb (2 ^ 63) w.lo) refl o)

  -- both above it: it does not
  pub both_above : (w.hi ≡ 0 → ⊥) → (w.hi ≡ 2 ^ 64 - 1 → ⊥) → false ≡ holds_s 8 (joined_signed w)
  both_above z o =
      sym (ap (holds_s 8) as_twos ∙ far_between 8 8 w.lo w.hi (lit< tt) (lit< tt) l (omega arith) (omega arith))

  module _ (holds : Bool) (is : holds ≡ holds_s 8 (joined_signed w)) where
    -- the low word was given on as a signed value
    pub low_word_signed : (z : ℤ) → z ≡ twos 8 w.lo → SFits w64 z → holds ≡ true →
        signed_bytes (to_z w64 (of_z w64 z)) ≡ signed_bytes (joined_signed w)
    low_word_signed z e f t =
        let held = ap (holds_s 8) (sym as_twos) ∙ sym is ∙ t in
        ap signed_bytes (to_z-of_z w64 z f ∙ e ∙ held_low 8 8 w.lo w.hi (lit< tt) (lit< tt) l h held ∙ sym as_twos)

    -- both words were
    pub words_signed : holds ≡ false → 47 ∷ (to_le 8 w.lo ++ to_le 8 w.hi) ≡ signed_bytes (joined_signed w)
    words_signed t =
        signed_words w.lo w.hi l h (ap (holds_s 8) (sym as_twos) ∙ sym is ∙ t) ∙ ap signed_bytes (sym as_twos)

  -- both words were given on as an unsigned value
  pub words_unsigned : (w.hi ≡ 0 → ⊥) → 79 ∷ (to_le 8 w.lo ++ to_le 8 w.hi) ≡ unsigned_bytes (joined w)
  words_unsigned z = unsigned_words w.lo w.hi l h (omega arith) ∙ ap unsigned_bytes (sym (low_first w))

-- the low word was
pub low_word_unsigned : (w : Wide) → w.hi ≡ 0 → unsigned_bytes w.lo ≡ unsigned_bytes (joined w)
low_word_unsigned w z = ap unsigned_bytes (omega arith)

pub ruleset word_ends = (
  zeros_above,
  ones_above,
  both_above,
  low_word_signed,
  words_signed,
  words_unsigned,
  low_word_unsigned,
  writes,
  rules,
)
