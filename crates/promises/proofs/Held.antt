-- What the definitions of the reads hold, told, is what the bytes say; and what they leave in a lent buffer.
use mathlib.Core.Path.{◌≡◌, refl, ◌∙◌, sym, ap}
use mathlib.Core.Bool.{Bool, true, false}
use mathlib.Core.List.{List, [], ◌∷◌, ◌++◌}
use Prim.Native.Nat.{ℕ, zero, suc, ◌+◌, ◌-◌, ◌≤◌, ◌<◌}
use native.Mathlib.Omega.{arith}
use lib.Dec.{ltb, eqb}
use lib.IntN.{ℤ, pos}
use lib.ListN.{length, take, drop, length-drop}
use lib.Seq.{length-take-le, take_all}
use borrow.Author.Tests.{lt-ltb, ltb-true, ltb-false}
use Rattle.types.specs.Choice.{pick}
use Rattle.types.specs.Kinds.{kind_code, special_from, special_known}
use Rattle.types.specs.Forms.{integers_read, allowed_count}
use Rattle.types.specs.Values.{value}
use Rattle.types.specs.Counters.{place_in}
use Rattle.types.specs.declared.Kind.{Kind}
use Rattle.types.specs.declared.Way.{Way}
use Rattle.types.specs.declared.Way.TheVariants as W
use Rattle.types.proofs.Counters.{place_within, place_same}
use Rattle.lent.specs.Lent.{copied_over}
use Rattle.reader.specs.Strings.{start_of, string_scratch, scratch_needed}
use Rattle.reader.specs.Raw.{raw_bytes}
use Rattle.reader.proofs.Strings.{start_within, scratch_read}
use Rattle.integer.specs.Integers.{int_of, uint_of, integer_of}
use Rattle.integer.proofs.Counts.{each}
use Rattle.integer.proofs.RoundTrip.{int_value, uint_value}
use Rattle.binary.specs.Formats.{Meaning, finite, infinite, nan, meaning}
use Rattle.binary.specs.Floats.{plain}
use Rattle.float.specs.Floats.{float_of, layout_at}
use Rattle.float.specs.Values.{float_value}
use Rattle.float.proofs.Counts.{Allowed, two, four, eight}
use Rattle.float.proofs.Stored.{float_means_lem}
use Rattle.promises.specs.Told.{integer_told, nucleus_told, float_told, value_told, meaning_told}
use Rattle.promises.specs.Held.{bits_at, special_held, int_held, uint_held, integer_held, float_held, copied}
use Rattle.promises.specs.Entries.{raw_count}
use Rattle.atom.specs.Atoms.{special_nucleus}

-- a place past the source is its end
pub outside : (n at : ℕ) → n < at → place_in n at ≡ n
outside n at h = simp (lt-ltb n at h)

-- ---- numbers

module _ (n : ℕ) (h : allowed_count n ≡ true) (v : ℕ) where
  int_told : integer_told (int_of n v) ≡ int_held n v
  unfolding int_of
  int_told =
      each (λ m. integer_told (int_of m v) ≡ pos 1 ∷ pos (bits_at m) ∷ value (int_of m v) ∷ []) integers_read
      (refl, (refl, (refl, (refl, (refl, (refl, (refl, tt))))))) n h
      ∙ ap (λ (z : ℤ). pos 1 ∷ pos (bits_at n) ∷ z ∷ []) (int_value n h v)

  uint_told : integer_told (uint_of n v) ≡ uint_held n v
  unfolding uint_of
  uint_told =
      each (λ m. integer_told (uint_of m v) ≡ pos 0 ∷ pos (bits_at m) ∷ value (uint_of m v) ∷ []) integers_read
      (refl, (refl, (refl, (refl, (refl, (refl, (refl, tt))))))) n h
      ∙ ap (λ (z : ℤ). pos 0 ∷ pos (bits_at n) ∷ z ∷ []) (uint_value n h v)

  pub integer_told_lem : (kind : Kind) → integer_told (integer_of kind n v) ≡ integer_held kind n v
  integer_told_lem kind = by (eqb (kind_code kind) 1)
    where
      by : (t : Bool) → integer_told (pick t (int_of n v) (uint_of n v)) ≡ pick t (int_held n v) (uint_held n v)
      by true = int_told
      by false = uint_told

-- a NaN is told without its sign and payload
pub plain_told : (m : Meaning) → meaning_told (plain m) ≡ meaning_told m
plain_told (finite s m) = refl
plain_told (infinite s) = refl
plain_told (nan s t) = refl

pub float_told_lem : (c b : ℕ) → Allowed c → float_told (float_of c b) ≡ float_held c b
unfolding float_of
float_told_lem c b a = by a (ap meaning_told (float_means_lem c b a) ∙ plain_told (meaning (layout_at c) b))
  where
    by : Allowed c → value_told (float_value (float_of c b)) ≡ meaning_told (meaning (layout_at c) b) →
        float_told (float_of c b) ≡ float_held c b
    by (two e) h = let k = rw e at h in rw e (ap (λ (l : List ℤ). pos 32 ∷ l) k)
    by (four e) h = let k = rw e at h in rw e (ap (λ (l : List ℤ). pos 32 ∷ l) k)
    by (eight e) h = let k = rw e at h in rw e (ap (λ (l : List ℤ). pos 64 ∷ l) k)

-- ---- specials

pub special_told : (n : ℕ) → n < 7 → special_held n ≡ nucleus_told (special_nucleus (special_known (special_from n)))
special_told zero h = refl
special_told (suc zero) h = refl
special_told (suc (suc zero)) h = refl
special_told (suc (suc (suc zero))) h = refl
special_told (suc (suc (suc (suc zero)))) h = refl
special_told (suc (suc (suc (suc (suc zero))))) h = refl
special_told (suc (suc (suc (suc (suc (suc zero)))))) h = refl
special_told (suc (suc (suc (suc (suc (suc (suc n))))))) h = absurd (omega arith)

-- ---- lent buffers

-- a string that is read fills the scratch that it needs
pub string_copied : (way : Way) (s : List ℕ) (place n : ℕ) (scratch : List ℕ) → start_of s place + n ≤ length s →
    scratch_needed way n ≤ length scratch →
    string_scratch way s place n scratch ≡ copied s (start_of s place) (scratch_needed way n) scratch
string_copied W.Filled s place n scratch h r = refl
string_copied W.ExactLent s place n scratch h r = refl
string_copied W.ExactCopied s place n scratch h r = scratch_read s place n scratch h r

-- a raw read takes as many bytes as the buffer holds, or as are left
module _ (s : List ℕ) (place : ℕ) (buffer : List ℕ) where
  same_bytes_lem : raw_bytes s place buffer ≡ take (raw_count s place buffer) (drop (start_of s place) s)
  same_bytes_lem = by (ltb (length s) (start_of s place + length buffer)) refl
    where
      by : (t : Bool) → ltb (length s) (start_of s place + length buffer) ≡ t →
          raw_bytes s place buffer ≡ take (raw_count s place buffer) (drop (start_of s place) s)
      by false e =
          let h = ltb-false (length s) (start_of s place + length buffer) e in
          let p = place_same (length s) (start_of s place + length buffer) h in
          let n : length buffer ≡ raw_count s place buffer = omega arith in
          ap (λ (k : ℕ). take k (drop (start_of s place) s)) n
      by true e =
          let h = ltb-true (length s) (start_of s place + length buffer) e in
          let p = outside (length s) (start_of s place + length buffer) h in
          let w = start_within s place in
          let l : length (drop (start_of s place) s) ≡ length s - start_of s place = length-drop (start_of s place) s in
          take_all (length buffer) (drop (start_of s place) s) (omega arith)
          ∙ sym (take_all (raw_count s place buffer) (drop (start_of s place) s) (omega arith))

  count_left : raw_count s place buffer ≤ length s - start_of s place
  count_left = omega (arith, place_within (length s) (start_of s place + length buffer))

  pub raw_length : length (raw_bytes s place buffer) ≡ raw_count s place buffer
  raw_length =
      let l : length (drop (start_of s place) s) ≡ length s - start_of s place = length-drop (start_of s place) s in
      ap length same_bytes_lem
      ∙ length-take-le (raw_count s place buffer) (drop (start_of s place) s) (omega (arith, count_left))

  pub raw_place : start_of s place + length (raw_bytes s place buffer)
      ≡ place_in (length s) (start_of s place + length buffer)
  raw_place = omega (arith, raw_length, reaches (ltb (length s) (start_of s place + length buffer)) refl)
    where
      reaches : (t : Bool) → ltb (length s) (start_of s place + length buffer) ≡ t →
          start_of s place ≤ place_in (length s) (start_of s place + length buffer)
      reaches true e =
          let h = ltb-true (length s) (start_of s place + length buffer) e in
          let p = outside (length s) (start_of s place + length buffer) h in
          let w = start_within s place in
          omega arith
      reaches false e =
          let h = ltb-false (length s) (start_of s place + length buffer) e in
          let p = place_same (length s) (start_of s place + length buffer) h in
          omega arith

  pub raw_copied :
      copied_over (raw_bytes s place buffer) buffer ≡ copied s (start_of s place) (raw_count s place buffer) buffer
  unfolding copied_over
  raw_copied =
      ap (λ (l : List ℕ). l ++ drop (length (raw_bytes s place buffer)) buffer) same_bytes_lem
      ∙ ap (λ (n : ℕ). take (raw_count s place buffer) (drop (start_of s place) s) ++ drop n buffer) raw_length
