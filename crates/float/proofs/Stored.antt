-- What the writers store for a pattern: the same value, in the fewest bytes; for a NaN the same bits at the same width.
-- Over every count: a writer of a width is one case. Rests on the laws of narrowing and widening.
use Rattle.std.specs.Prelude.{Option, Some, None}
use mathlib.Core.Path.{◌≡◌, refl, sym, ap, ◌∙◌, subst}
use mathlib.Core.Bool.{Bool, true, false≢true}
use mathlib.Core.List.{List}
use Prim.Native.Nat.{ℕ, ◌*◌, ◌^◌, ◌≤◌, ◌<◌}
use native.Mathlib.Omega.{arith}
use lib.Dec.{lit<}
use lib.Ieee.{binary32, binary64, of_bits}
use Rattle.types.specs.Forms.{allowed_float}
use Rattle.binary.specs.Formats.{Layout, half, single, double, sign_weight, Meaning, finite, infinite, nan, meaning}
use Rattle.binary.specs.Formats.{NotNan, SameValue}
use Rattle.binary.specs.Conversions.{with_sign, infinity, widened, narrowed}
use Rattle.binary.specs.Floats.{float_meaning, plain}
use Rattle.binary.proofs.Patterns.{one_pattern}
use Rattle.binary.proofs.Widths.{half-single}
use Rattle.binary.proofs.Laws.{narrowed_sound, narrowed-lost, narrowed-nan, narrowed_zero, narrowed-infinite}
use Rattle.binary.proofs.Laws.{widened_lt, widened_keeps, widened-narrowed}
use Rattle.binary.proofs.Values.{of_bits_means, half_value, narrowed_value}
use Rattle.float.specs.Floats.{float_of, layout_at}
use Rattle.float.specs.Bytes.{float_bytes, f32_bytes, f64_bytes}
use Rattle.float.specs.Values.{float_value, float_means}
use Rattle.float.proofs.Counts.{Allowed, two, four, eight, allowed_is, is_allowed}
use Rattle.float.proofs.Writes.{f32_short, f32_own, f64_short, f64_own}

-- the bits of a pattern of a width, written: what they are, how many bytes hold what
pub record Stored (own bits : ℕ) (bytes : List ℕ) : Type 0 where
  pub count : ℕ
  pub stored : ℕ
  pub its_bytes : bytes ≡ float_bytes count stored
  pub its_count : allowed_float count ≡ true
  pub its_room : stored < 256 ^ count
  -- it is read as the same value
  pub value : float_value (float_of count stored) ≡ float_value (float_of own bits)
  -- what is stored has the same sign and magnitude, or is the same infinity
  pub number : NotNan (meaning (layout_at own) bits) → meaning (layout_at count) stored ≡ meaning (layout_at own) bits
  -- "A NaN is written at its own width with its own bits."
  pub nan_kept : (s : Bool) (t : ℕ) → meaning (layout_at own) bits ≡ nan s t → (count ≡ own) × (stored ≡ bits)
  -- no fewer bytes hold the value
  pub fewest : (c q : ℕ) → Allowed c → q < 256 ^ c → NotNan (meaning (layout_at own) bits) →
      meaning (layout_at c) q ≡ meaning (layout_at own) bits → count ≤ c

-- ---- what is read means what is stored

-- the sign and the magnitude of the stored bits, the infinity, or the NaN
pub float_means_lem : (c b : ℕ) → Allowed c → float_means (float_of c b) ≡ plain (meaning (layout_at c) b)
unfolding float_of
float_means_lem c b (two e) = rw e (half_value b)
float_means_lem c b (four e) = rw e (of_bits_means binary32 b)
float_means_lem c b (eight e) = rw e (of_bits_means binary64 b)

pub meaning_kept : (own bits : ℕ) (bytes : List ℕ) → Allowed own → (S : Stored own bits bytes) →
    float_means (float_of S.count S.stored) ≡ plain (meaning (layout_at own) bits)
meaning_kept own bits bytes a S = ap float_meaning S.value ∙ float_means_lem own bits a

-- ---- each width that is stored as it is

pub value_two : (q : ℕ) → float_value (float_of 2 q) ≡ of_bits binary32 (widened half single q)
unfolding float_of
value_two q = refl

pub value_four : (q : ℕ) → float_value (float_of 4 q) ≡ of_bits binary32 q
unfolding float_of
value_four q = refl

pub value_eight : (q : ℕ) → float_value (float_of 8 q) ≡ of_bits binary64 q
unfolding float_of
value_eight q = refl

least : (c : ℕ) → Allowed c → 2 ≤ c
least c (two e) = omega arith
least c (four e) = omega arith
least c (eight e) = omega arith

-- a pattern that is stored at its own width, where no narrower one holds it
stored_own : (own b : ℕ) (bytes : List ℕ) → Allowed own → b < 256 ^ own → bytes ≡ float_bytes own b →
    ((c q : ℕ) → Allowed c → q < 256 ^ c → NotNan (meaning (layout_at own) b) →
    meaning (layout_at c) q ≡ meaning (layout_at own) b → own ≤ c) → Stored own b bytes
stored_own own b bytes a h e f = record {
  count = own;
  stored = b;
  its_bytes = e;
  its_count = is_allowed own a;
  its_room = h;
  value = refl;
  number = λ n. refl;
  nan_kept = λ s t e. (refl, refl);
  fewest = f;
}

pub stored_half : (b : ℕ) → b < 256 ^ 2 → Stored 2 b (float_bytes 2 b)
stored_half b h = stored_own 2 b (float_bytes 2 b) (two refl) h refl (λ c q a r n e. least c a)

at_count : (c d q : ℕ) → c ≡ d → q < 256 ^ c → q < 256 ^ d
at_count c d q e h = rw e at h

at_layout : (c d q : ℕ) (m : Meaning) → c ≡ d → meaning (layout_at c) q ≡ m → meaning (layout_at d) q ≡ m
at_layout c d q m e h = subst (λ (n : ℕ). meaning (layout_at n) q ≡ m) e h

number_of_lem : (m n : Meaning) → m ≡ n → NotNan n → NotNan m
number_of_lem m n e k = subst NotNan (sym e) k

-- a NaN narrows to nothing
nan-lost : (from to : Layout) (b q : ℕ) (s : Bool) (t : ℕ) → narrowed from to b ≡ Some q → meaning from b ≡ nan s t → ⊥
nan-lost from to b q s t h e = let l : narrowed from to b ≡ None = narrowed-nan from to b s t e in false≢true cc

-- ---- a binary32 pattern

module _ (b : ℕ) (B : b < 256 ^ 4) where
  single_as_half : (q : ℕ) → narrowed single half b ≡ Some q → Stored 4 b (f32_bytes b)
  single_as_half q h =
      let v = narrowed_sound single half b q h in
      record {
        count = 2;
        stored = q;
        its_bytes = sym (f32_short b q h);
        its_count = is_allowed 2 (two refl);
        its_room = v.0;
        value = value_two q ∙ ap (of_bits binary32) (widened-narrowed half-single b q B h) ∙ sym (value_four b);
        number = λ n. v.2;
        nan_kept = λ s t e. absurd (nan-lost single half b q s t h e);
        fewest = λ c p a r n e. least c a;
      }

  single-fewest : narrowed single half b ≡ None → (c q : ℕ) → Allowed c → q < 256 ^ c → NotNan (meaning single b) →
      meaning (layout_at c) q ≡ meaning single b → 4 ≤ c
  single-fewest h c q (two e) r n m =
      absurd (narrowed-lost single half b h q (at_count c 2 q e r, n, at_layout c 2 q (meaning single b) e m))
  single-fewest h c q (four e) r n m = omega arith
  single-fewest h c q (eight e) r n m = omega arith

  single_as_single : narrowed single half b ≡ None → Stored 4 b (f32_bytes b)
  single_as_single h = stored_own 4 b (f32_bytes b) (four refl) B (sym (f32_own b h)) (single-fewest h)

  single_by : (n : Option ℕ) → narrowed single half b ≡ n → Stored 4 b (f32_bytes b)
  single_by (Some q) h = single_as_half q h
  single_by None h = single_as_single h

  pub stored_single : Stored 4 b (f32_bytes b)
  stored_single = single_by (narrowed single half b) refl

-- ---- a binary64 pattern

module _ (b : ℕ) (B : b < 256 ^ 8) where
  module _ (q : ℕ) (h : narrowed double single b ≡ Some q) (S : Stored 4 q (f32_bytes q)) where
    narrower : SameValue double single b q
    narrower = narrowed_sound double single b q h

    double_as_single : Stored 8 b (f64_bytes b)
    double_as_single = record {
      count = S.count;
      stored = S.stored;
      its_bytes = sym (f64_short b q h) ∙ S.its_bytes;
      its_count = S.its_count;
      its_room = S.its_room;
      value = S.value ∙ value_four q ∙ narrowed_value b q B h ∙ sym (value_eight b);
      number = λ n. S.number (number_of_lem (meaning single q) (meaning double b) narrower.2 n) ∙ narrower.2;
      nan_kept = λ s t e. absurd (nan-lost double single b q s t h e);
      fewest = λ c p a r n e. S.fewest c p a r (number_of_lem (meaning single q) (meaning double b) narrower.2 n)
          (e ∙ sym narrower.2);
    }

  double-fewest : narrowed double single b ≡ None → (c q : ℕ) → Allowed c → q < 256 ^ c → NotNan (meaning double b) →
      meaning (layout_at c) q ≡ meaning double b → 8 ≤ c
  double-fewest h c q (two e) r n m =
      let m' : meaning half q ≡ meaning double b = at_layout c 2 q (meaning double b) e m in
      let k : NotNan (meaning half q) = number_of_lem (meaning half q) (meaning double b) m' n in
      absurd (narrowed-lost double single b h (widened half single q)
      (widened_lt half-single q k, n, widened_keeps half-single q k ∙ m'))
  double-fewest h c q (four e) r n m =
      absurd (narrowed-lost double single b h q (at_count c 4 q e r, n, at_layout c 4 q (meaning double b) e m))
  double-fewest h c q (eight e) r n m = omega arith

  double_as_double : narrowed double single b ≡ None → Stored 8 b (f64_bytes b)
  double_as_double h = stored_own 8 b (f64_bytes b) (eight refl) B (sym (f64_own b h)) (double-fewest h)

  double_by : (n : Option ℕ) → narrowed double single b ≡ n → Stored 8 b (f64_bytes b)
  double_by (Some q) h = double_as_single q h (stored_single q (narrowed_sound double single b q h).0)
  double_by None h = double_as_double h

  pub stored_double : Stored 8 b (f64_bytes b)
  stored_double = double_by (narrowed double single b) refl

-- ---- what is stored goes by the value alone

pub pattern_lt : (c q : ℕ) → Allowed c → q < 256 ^ c → q < 2 * sign_weight (layout_at c)
pattern_lt c q (two e) h = rw e (at_count c 2 q e h)
pattern_lt c q (four e) h = rw e (at_count c 4 q e h)
pattern_lt c q (eight e) h = rw e (at_count c 8 q e h)

level : (a b : ℕ) → a ≤ b → b ≤ a → a ≡ b
level a b p q = omega arith

-- equal numbers have equal bytes, whatever the widths that they come from
pub one_form : (own bits own' bits' : ℕ) (bytes bytes' : List ℕ) → Stored own bits bytes → Stored own' bits' bytes'
    → NotNan (meaning (layout_at own) bits) → meaning (layout_at own) bits ≡ meaning (layout_at own') bits' →
    bytes ≡ bytes'
one_form own bits own' bits' bytes bytes' S S' n e =
    let n' : NotNan (meaning (layout_at own') bits') =
    number_of_lem (meaning (layout_at own') bits') (meaning (layout_at own) bits) (sym e) n in
    let a = allowed_is S.count S.its_count in
    let a' = allowed_is S'.count S'.its_count in
    let c : S.count ≡ S'.count =
    level S.count S'.count
    (S.fewest S'.count S'.stored a' S'.its_room n (S'.number n' ∙ sym e))
    (S'.fewest S.count S.stored a S.its_room n' (S.number n ∙ e)) in
    let m : meaning (layout_at S'.count) S.stored ≡ meaning (layout_at S'.count) S'.stored =
    at_layout S.count S'.count S.stored (meaning (layout_at S'.count) S'.stored) c
    (S.number n ∙ e ∙ sym (S'.number n')) in
    let q : S.stored ≡ S'.stored =
    one_pattern (layout_at S'.count) S.stored S'.stored
    (pattern_lt S'.count S.stored a' (at_count S.count S'.count S.stored c S.its_room))
    (pattern_lt S'.count S'.stored a' S'.its_room) m in
    S.its_bytes ∙ ap (λ (x : ℕ). float_bytes x S.stored) c ∙ ap (float_bytes S'.count) q ∙ sym S'.its_bytes

-- ---- "Both zeros and both infinities take 2 bytes."

module _ (own bits : ℕ) (bytes : List ℕ) (S : Stored own bits bytes) where
  -- a number that binary16 has takes 2 bytes, its pattern there
  pub takes_two : (q : ℕ) → narrowed (layout_at own) half bits ≡ Some q → bytes ≡ float_bytes 2 q
  takes_two q h =
      let v = narrowed_sound (layout_at own) half bits q h in
      one_form own bits 2 q bytes (float_bytes 2 q) S (stored_half q v.0) v.1 (sym v.2)

  pub zero_two : (s : Bool) → meaning (layout_at own) bits ≡ finite s 0 → bytes ≡ float_bytes 2 (with_sign half s 0)
  zero_two s e = takes_two (with_sign half s 0) (narrowed_zero (layout_at own) half bits s (lit< tt) e)

  pub infinity_two : (s : Bool) → meaning (layout_at own) bits ≡ infinite s →
      bytes ≡ float_bytes 2 (with_sign half s (infinity half))
  infinity_two s e = takes_two (with_sign half s (infinity half)) (narrowed-infinite (layout_at own) half bits s e)
