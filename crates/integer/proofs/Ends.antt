-- The ends of the readers of an integer of any kind and count: what each has in hand at a return, and what it answers.
use Rattle.std.specs.Prelude.{Ok, Err}
use mathlib.Core.Path.{◌≡◌, refl, ◌∙◌, ap}
use mathlib.Core.Bool.{Bool, true, false}
use mathlib.Core.List.{List}
use Prim.Native.Nat.{ℕ, ◌+◌, ◌-◌, ◌≤◌, ◌<◌}
use native.Mathlib.Omega.{arith}
use borrow.Author.Rules.{rules}
use borrow.Author.Tests.{le-leb, lt-leb}
use lib.ListN.{length}
use Rattle.types.specs.Counters.{place_in}
use Rattle.types.specs.Ways.{exact}
use Rattle.types.specs.Forms.{allowed_count, unsupported}
use Rattle.types.specs.declared.Way.{Way}
use Rattle.types.specs.declared.Kind.{Kind}
use Rattle.types.specs.declared.Kind.TheVariants as K
use Rattle.types.specs.declared.Integer.{Integer}
use Rattle.types.specs.declared.Refusal.{Refusal}
use Rattle.types.specs.declared.Refusal.TheVariants as R
use Rattle.little.specs.Le.{number_at, filled_at}
use Rattle.little.proofs.Judged.{judged_laws}
use Rattle.little.proofs.Zeros.{block_number, block_laws}
use Rattle.integer.specs.Integers.{integer_kind, integer_of}
use Rattle.integer.specs.Integers.{integer_body, integer_from, integer_read}
use Rattle.integer.proofs.Counts.{allowed_bounds}

-- bytes that run past the end are read in a block, where all of them are there
pub few_bytes : (count : ℕ) → allowed_count count ≡ true → count ≤ 16
few_bytes count a = (allowed_bounds count a).1

pub block_value : (s block : List ℕ) (at count : ℕ) → block ≡ filled_at 16 s at → allowed_count count ≡ true →
    (kind : Kind) (value : Integer) → value ≡ integer_of kind count (number_at count block 0) →
    value ≡ integer_of kind count (number_at count s at)
block_value s block at count b a kind value e =
    e ∙ ap (integer_of kind count) (block_number 16 s at block b count (few_bytes count a) _ refl)

pub ruleset block_ends = (block_laws, few_bytes, block_value, rules)

-- an integer read at a place
module _ (way : Way) (s : List ℕ) (place at : ℕ) (kind : Kind) (count : ℕ) (w : at ≡ place_in (length s) place) where
  -- of another kind
  pub kind_refused : integer_kind kind ≡ false →
      Err (record { 0 = at }, R.UnexpectedKind kind K.Int) ≡ integer_read way s place kind count
  unfolding integer_from
  kind_refused k = cc

  module _ (k : integer_kind kind ≡ true) where
    -- of a count that is not allowed
    pub count_refused : (why : Refusal) → why ≡ unsupported kind count → allowed_count count ≡ false →
        Err (record { 0 = at }, why) ≡ integer_read way s place kind count
    unfolding integer_from
    count_refused why r a = cc

    -- that is allowed: the bytes are there; they are not, in exact reading, and in filled reading
    module _ (a : allowed_count count ≡ true) (within : at ≤ length s) where
      pub read_whole : (value : Integer) → count ≤ length s - at →
          value ≡ integer_of kind count (number_at count s at) →
          Ok (record { 0 = at + count }, value) ≡ integer_read way s place kind count
      unfolding integer_from integer_body
      read_whole value l v = cc (le-leb (at + count) (length s) (omega arith))

      module _ (exactly : Bool) (l : length s - at < count) (x : exactly ≡ exact way) where
        pub read_past_end : exactly ≡ true →
            Err (record { 0 = length s }, R.Eof) ≡ integer_read way s place kind count
        unfolding integer_from integer_body
        read_past_end y = cc (lt-leb (at + count) (length s) (omega arith))

        pub read_filled : (value : Integer) → exactly ≡ false →
            value ≡ integer_of kind count (number_at count s at) →
            Ok (record { 0 = length s }, value) ≡ integer_read way s place kind count
        unfolding integer_from integer_body
        read_filled value y v = cc (lt-leb (at + count) (length s) (omega arith))

pub ruleset read_ends =
    (kind_refused, count_refused, read_whole, read_past_end, read_filled, judged_laws, rules)
