-- The ends of float's functions: at each return or call, what the code has in hand there and what it answers.
use Rattle.std.specs.Prelude.{Result, Ok, Err, Option, Some, None}
use mathlib.Core.Path.{◌≡◌, sym, ◌∙◌}
use mathlib.Core.Bool.{Bool, true, false}
use mathlib.Core.List.{List, ◌∷◌}
use Prim.Native.Nat.{ℕ, ◌+◌, ◌-◌, ◌≤◌, ◌<◌, ◌^◌}
use native.Mathlib.Omega.{arith}
use borrow.Author.Rules.{rules}
use borrow.Author.Tests.{le-leb, lt-leb, eq-eqb, ne_eqb}
use lib.Ieee as Ieee
use lib.ListN.{length}
use Rattle.types.specs.Answers.{FloatAnswer}
use Rattle.types.specs.Counters.{place_in}
use Rattle.types.specs.Kinds.{kind_code}
use Rattle.types.specs.Ways.{exact}
use Rattle.types.specs.Forms.{listed, allowed_float, unsupported}
use Rattle.types.specs.declared.Way.{Way}
use Rattle.types.specs.declared.Kind.{Kind}
use Rattle.types.specs.declared.Kind.TheVariants as K
use Rattle.types.specs.declared.Float.{Float}
use Rattle.types.specs.declared.Float.TheVariants as F
use Rattle.types.specs.declared.Refusal.{Refusal}
use Rattle.types.specs.declared.Refusal.TheVariants as R
use Rattle.header.specs.Header.{header_bytes}
use Rattle.lent.specs.Lent.{written_answer, written_content}
use Rattle.little.specs.Le.{number_at, to_le}
use Rattle.little.proofs.Judged.{judged_laws}
use Rattle.little.proofs.Zeros.{block_laws}
use Rattle.binary.specs.Formats.{half, single, double}
use Rattle.binary.specs.Conversions.{widened, narrowed, narrowed_meaning}
use Rattle.binary.specs.Floats.{float_meaning}
use Rattle.float.specs.Floats.{float_of, float_body, float_from, float_read}
use Rattle.float.specs.Bytes.{float_bytes, f32_bytes, f64_bytes, value_bytes}
use Rattle.float.specs.Values.{float_value, at_most, is_zero, as_f32, if_equal, equal_numbers, equal_floats}
use Rattle.float.proofs.Counts.{allowed_most, allowed_last}
use Rattle.float.proofs.Writes.{f32_short, f32_own, f64_short, f64_own}
use Rattle.float.proofs.Patterns.{narrow_taken, narrow_lost}

-- a count of bytes, which an arm knows by its number, or by those that it is not
module _ (count : ℕ) where
  pub two_allowed : count ≡ 2 → true ≡ allowed_float count
  unfolding listed
  two_allowed e = simp e

  pub four_allowed : count ≡ 4 → true ≡ allowed_float count
  unfolding listed
  four_allowed e = simp e

  pub eight_allowed : count ≡ 8 → true ≡ allowed_float count
  unfolding listed
  eight_allowed e = simp e

  pub others_not_allowed : (count ≡ 2 → ⊥) → (count ≡ 4 → ⊥) → (count ≡ 8 → ⊥) → false ≡ allowed_float count
  unfolding listed
  others_not_allowed p q r = simp (ne_eqb count 2 p, ne_eqb count 4 q, ne_eqb count 8 r)

  -- bits that fit it
  pub two_bytes_fit : (bits : ℕ) → count ≡ 2 → bits < 256 ^ count → bits < 2 ^ 16
  two_bytes_fit bits e h = rw e at h

  pub four_bytes_fit : (bits : ℕ) → count ≡ 4 → bits < 256 ^ count → bits < 2 ^ 32
  four_bytes_fit bits e h = rw e at h

  -- the float of that many bytes
  module _ (bits : ℕ) (value : Ieee.Float) where
    pub float_of_two : (wide : ℕ) → count ≡ 2 → wide ≡ widened half single bits →
        value ≡ Ieee.of_bits Ieee.binary32 wide → F.F32 value ≡ float_of count bits
    unfolding float_of
    float_of_two wide e w v = simp (e, v, w)

    pub float_of_four : count ≡ 4 → value ≡ Ieee.of_bits Ieee.binary32 bits → F.F32 value ≡ float_of count bits
    unfolding float_of
    float_of_four e v = simp (e, v)

    pub float_of_eight : (count ≡ 2 → ⊥) → (count ≡ 4 → ⊥) → value ≡ Ieee.of_bits Ieee.binary64 bits →
        F.F64 value ≡ float_of count bits
    unfolding float_of
    float_of_eight p q v = simp (ne_eqb count 2 p, ne_eqb count 4 q, v)

  -- the bits that a reader of n bytes has read
  module _ (s : List ℕ) (at n bits : ℕ) (b : bits ≡ number_at n s at) where
    pub bits_of : count ≡ n → bits ≡ number_at count s at
    bits_of e = cc

    pub bits_below : bits < 256 ^ n → count ≡ n → bits < 256 ^ count
    bits_below l e = rw e l

  pub eight_there : (at long : ℕ) → allowed_float count ≡ true → (count ≡ 2 → ⊥) → (count ≡ 4 → ⊥) →
      at + count ≤ long → at + 8 ≤ long
  eight_there at long a p q h = let e = allowed_last count a p q in omega arith

  -- bytes that run past the end are read in a block, where all of them are there
  pub few_bytes : allowed_float count ≡ true → count ≤ 16
  few_bytes a = omega (arith, allowed_most count a)

pub ruleset allowed_ends = (two_allowed, four_allowed, eight_allowed, others_not_allowed, rules)

pub ruleset of_counts = (float_of_two, float_of_four, float_of_eight, two_bytes_fit, four_bytes_fit)

pub ruleset count_ends = (of_counts, bits_of, bits_below, eight_there, allowed_last, rules)

pub ruleset block_ends = (block_laws, few_bytes, rules)

-- a float read at a place within the source, whose kind has a code
module _ (way : Way) (s : List ℕ) (at count : ℕ) (kind : Kind) (code : ℕ) (d : code ≡ kind_code kind) where
  -- of another kind
  pub kind_refused : (code ≡ 3 → ⊥) →
      Err (record { 0 = at }, R.UnexpectedKind kind K.Float) ≡ float_from way s at kind count
  unfolding float_from
  kind_refused k = cc (ne_eqb code 3 k)

  module _ (k : code ≡ 3) where
    -- of a count that is not allowed
    pub count_refused : (why : Refusal) → why ≡ unsupported K.Float count → allowed_float count ≡ false →
        Err (record { 0 = at }, why) ≡ float_from way s at kind count
    unfolding float_from
    count_refused why r a = cc (eq-eqb code 3 k)

    -- that is allowed: the bytes are there; they are not, in exact reading, and in filled reading
    module _ (a : allowed_float count ≡ true) (within : at ≤ length s) where
      pub read_whole : (bits : ℕ) (value : Float) → count ≤ length s - at → bits ≡ number_at count s at →
          value ≡ float_of count bits →
          Ok (record { 0 = at + count }, value, bits) ≡ float_from way s at kind count
      unfolding float_from float_body
      read_whole bits value l b v = cc (eq-eqb code 3 k, le-leb (at + count) (length s) (omega arith))

      module _ (exactly : Bool) (l : length s - at < count) (x : exactly ≡ exact way) where
        pub read_past_end : exactly ≡ true →
            Err (record { 0 = length s }, R.Eof) ≡ float_from way s at kind count
        unfolding float_from float_body
        read_past_end y = cc (eq-eqb code 3 k, lt-leb (at + count) (length s) (omega arith))

        pub read_filled : (bits : ℕ) (value : Float) → exactly ≡ false → bits ≡ number_at count s at →
            value ≡ float_of count bits →
            Ok (record { 0 = length s }, value, bits) ≡ float_from way s at kind count
        unfolding float_from float_body
        read_filled bits value y b v = cc (eq-eqb code 3 k, lt-leb (at + count) (length s) (omega arith))

-- a place past the end counts as the end
pub read_within : (way : Way) (s : List ℕ) (place at : ℕ) (kind : Kind) (count : ℕ) (answer : FloatAnswer) →
    at ≡ place_in (length s) place → answer ≡ float_from way s at kind count →
    answer ≡ float_read way s place kind count
read_within way s place at kind count answer w e = cc

pub ruleset judged_ends = (kind_refused, count_refused, read_whole, read_past_end, read_filled)

pub ruleset read_ends = (judged_ends, judged_laws, read_within, rules)

-- bytes were written that are those of the value
module _ (these bytes old : List ℕ) where
  pub answered : (r : Result ℕ Refusal) → r ≡ written_answer these old → these ≡ bytes → r ≡ written_answer bytes old
  answered r a e = cc

  pub stored : (new : List ℕ) → new ≡ written_content these old → these ≡ bytes → new ≡ written_content bytes old
  stored new c e = cc

-- by what the narrowing answered: 2 bytes of a binary32 pattern, or 4
module _ (bits : ℕ) (got : Option ℕ) (g : got ≡ narrowed single half bits) where
  pub half_written : (q : ℕ) → got ≡ Some q → 0x61 ∷ to_le 2 q ≡ f32_bytes bits
  unfolding float_bytes header_bytes
  half_written q h = f32_short bits q (sym g ∙ h)

  pub single_written : got ≡ None → 0x63 ∷ to_le 4 bits ≡ f32_bytes bits
  unfolding float_bytes header_bytes
  single_written h = f32_own bits (sym g ∙ h)

-- those of a binary32 pattern of a binary64 one, or 8
module _ (bits : ℕ) (got : Option ℕ) (g : got ≡ narrowed double single bits) where
  pub narrower_written : (q : ℕ) → got ≡ Some q → f32_bytes q ≡ f64_bytes bits
  narrower_written q h = f64_short bits q (sym g ∙ h)

  pub double_written : got ≡ None → 0x67 ∷ to_le 8 bits ≡ f64_bytes bits
  unfolding float_bytes header_bytes
  double_written h = f64_own bits (sym g ∙ h)

-- of a value, by its pattern; and of a float, by its variant
module _ (x : Ieee.Float) where
  pub f32_pattern : (bits : ℕ) → bits ≡ Ieee.to_bits Ieee.binary32 x →
      f32_bytes bits ≡ f32_bytes (Ieee.to_bits Ieee.binary32 x)
  f32_pattern bits e = cc

  pub f64_pattern : (bits : ℕ) → bits ≡ Ieee.to_bits Ieee.binary64 x →
      f64_bytes bits ≡ f64_bytes (Ieee.to_bits Ieee.binary64 x)
  f64_pattern bits e = cc

  pub f32_value : (v : Float) → v ≡ F.F32 x → f32_bytes (Ieee.to_bits Ieee.binary32 x) ≡ value_bytes v
  unfolding value_bytes
  f32_value v e = cc

  pub f64_value : (v : Float) → v ≡ F.F64 x → f64_bytes (Ieee.to_bits Ieee.binary64 x) ≡ value_bytes v
  unfolding value_bytes
  f64_value v e = cc

pub ruleset by_narrowing = (half_written, single_written, narrower_written, double_written)

pub ruleset write_ends = (answered, stored, by_narrowing, f32_pattern, f64_pattern, f32_value, f64_value, rules)

-- what a float answers of itself, by its variant
module _ (x : Float) (value : Ieee.Float) where
  pub small_f64 : (small : Bool) → small ≡ at_most 52 (float_meaning value) → x ≡ F.F64 value → small ≡ is_zero x
  unfolding is_zero
  small_f64 small s e = cc

  pub small_f32 : (small : Bool) → small ≡ at_most 23 (float_meaning value) → x ≡ F.F32 value → small ≡ is_zero x
  unfolding is_zero
  small_f32 small s e = cc

  pub narrowed_f64 : (answer : Result Ieee.Float Refusal) → answer ≡ if_equal value (narrowed_meaning single (float_meaning value)) →
      x ≡ F.F64 value → answer ≡ as_f32 x
  unfolding as_f32
  narrowed_f64 answer a e = cc

  pub own_f32 : x ≡ F.F32 value → Ok value ≡ as_f32 x
  unfolding as_f32
  own_f32 e = cc

pub compared : (a b : Float) (left right : Ieee.Float) (same : Bool) → left ≡ float_value a → right ≡ float_value b →
    same ≡ equal_numbers (float_meaning left) (float_meaning right) → same ≡ equal_floats a b
unfolding equal_floats
compared a b left right same l r s = cc

pub ruleset value_ends = (small_f64, small_f32, narrowed_f64, own_f32, compared, narrow_taken, narrow_lost, rules)
