-- What the definition of an integer read answers, over the kind and the count: the cases that further laws cite.
use Rattle.std.specs.Prelude.{Ok, Err}
use mathlib.Core.Path.{◌≡◌}
use mathlib.Core.Bool.{true, false}
use mathlib.Core.List.{List}
use Prim.Native.Nat.{ℕ, ◌+◌, ◌≤◌, ◌<◌}
use lib.ListN.{length}
use Rattle.types.specs.Answers.{IntegerAnswer}
use Rattle.types.specs.Ways.{exact}
use Rattle.types.specs.Forms.{allowed_count, unsupported}
use Rattle.types.specs.declared.Way.{Way}
use Rattle.types.specs.declared.Kind.{Kind}
use Rattle.types.specs.declared.Kind.TheVariants as K
use Rattle.types.specs.declared.Refusal.TheVariants as R
use Rattle.types.proofs.Ways.{up_to_within, up_to_filled}
use Rattle.little.specs.Le.{number_at}
use Rattle.integer.specs.Integers.{integer_kind, integer_of, integer_body, integer_from}

module _ (way : Way) (s : List ℕ) (at : ℕ) (kind : Kind) (count : ℕ) where
  found : ℕ → IntegerAnswer
  found p = Ok (record { 0 = p }, integer_of kind count (number_at count s at))

  eof : IntegerAnswer
  eof = Err (record { 0 = length s }, R.Eof)

  -- the bytes are there; they are not, in filled reading
  pub body_whole : at + count ≤ length s →
      integer_body way s at kind count ≡ Ok (record { 0 = at + count }, integer_of kind count (number_at count s at))
  unfolding integer_body found eof
  body_whole h = up_to_within way (length s) (at + count) found eof h

  pub body_filled : length s < at + count → exact way ≡ false →
      integer_body way s at kind count ≡ Ok (record { 0 = length s }, integer_of kind count (number_at count s at))
  unfolding integer_body found eof
  body_filled h x = up_to_filled way (length s) (at + count) found eof h x

  -- refusal 7, then refusal 6, then the bytes
  pub from_other_kind : integer_kind kind ≡ false →
      integer_from way s at kind count ≡ Err (record { 0 = at }, R.UnexpectedKind kind K.Int)
  unfolding integer_from
  from_other_kind k = simp k

  pub from_other_count : integer_kind kind ≡ true → allowed_count count ≡ false →
      integer_from way s at kind count ≡ Err (record { 0 = at }, unsupported kind count)
  unfolding integer_from
  from_other_count k a = simp (k, a)

  pub from_body : integer_kind kind ≡ true → allowed_count count ≡ true →
      integer_from way s at kind count ≡ integer_body way s at kind count
  unfolding integer_from
  from_body k a = simp (k, a)
