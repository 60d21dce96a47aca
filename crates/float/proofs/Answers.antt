-- What the definition of a float read answers: the cases that further laws cite.
use Rattle.std.specs.Prelude.{Ok, Err}
use mathlib.Core.Path.{◌≡◌, sym, ◌∙◌}
use mathlib.Core.Bool.{true, false}
use mathlib.Core.List.{List}
use Prim.Native.Nat.{ℕ, ◌+◌, ◌≤◌, ◌<◌}
use lib.ListN.{length}
use borrow.Author.Tests.{eq-eqb}
use Rattle.types.specs.Answers.{FloatAnswer}
use Rattle.types.specs.Kinds.{kind_code}
use Rattle.types.specs.Ways.{exact}
use Rattle.types.specs.Forms.{allowed_float, unsupported}
use Rattle.types.specs.declared.Way.{Way}
use Rattle.types.specs.declared.Kind.{Kind}
use Rattle.types.specs.declared.Kind.TheVariants as K
use Rattle.types.specs.declared.Float.{Float}
use Rattle.types.specs.declared.Refusal.TheVariants as R
use Rattle.types.proofs.Ways.{up_to_within, up_to_filled}
use Rattle.little.specs.Le.{number_at}
use Rattle.float.specs.Floats.{float_of, float_body, float_from}

-- a float's bytes: whole, and ended by the source in filled reading
module _ (way : Way) (s : List ℕ) (at count : ℕ) where
  taken : ℕ → FloatAnswer
  taken p = Ok (record { 0 = p }, float_of count (number_at count s at), number_at count s at)

  eof : FloatAnswer
  eof = Err (record { 0 = length s }, R.Eof)

  number : (p b : ℕ) (x : Float) → b ≡ number_at count s at → x ≡ float_of count b →
      ◌≡◌ {A = FloatAnswer} (Ok (record { 0 = p }, x, b)) (taken p)
  unfolding taken
  number p b x e f = cc

  pub body_whole : (b : ℕ) (x : Float) → b ≡ number_at count s at → x ≡ float_of count b → at + count ≤ length s →
      Ok (record { 0 = at + count }, x, b) ≡ float_body way s at count
  unfolding float_body taken eof
  body_whole b x e f h = number (at + count) b x e f ∙ sym (up_to_within way (length s) (at + count) taken eof h)

  pub body_filled : (b : ℕ) (x : Float) → b ≡ number_at count s at → x ≡ float_of count b → length s < at + count →
      exact way ≡ false → Ok (record { 0 = length s }, x, b) ≡ float_body way s at count
  unfolding float_body taken eof
  body_filled b x e f h w = number (length s) b x e f ∙ sym (up_to_filled way (length s) (at + count) taken eof h w)

  -- the count is judged after the kind
  pub from_count : (kind : Kind) → kind_code kind ≡ 3 → allowed_float count ≡ false →
      Err (record { 0 = at }, unsupported K.Float count) ≡ float_from way s at kind count
  unfolding float_from
  from_count kind h a = simp (eq-eqb (kind_code kind) 3 h, a)

  pub from_body : (kind : Kind) → kind_code kind ≡ 3 → allowed_float count ≡ true →
      float_body way s at count ≡ float_from way s at kind count
  unfolding float_from
  from_body kind h a = simp (eq-eqb (kind_code kind) 3 h, a)
