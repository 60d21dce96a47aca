-- The ends of the casts that name their target by a number: what the target's own cast answers, mapped to an integer.
use Rattle.std.specs.Prelude.{Result, Ok, Err, IsOkAnd, MatchResult}
use mathlib.Core.Path.{◌≡◌, refl, ◌∙◌, ap}
use mathlib.Core.Bool.{Bool, true, false, ◌&&◌, false≢true}
use Prim.Native.Nat.{ℕ}
use borrow.Author.Rules.{rules}
use lib.Dec.{leb}
use lib.IntN.{ℤ, pos, nat_abs}
use mir.Syntax.{Sign, unsigned, signed, Width, w128}
use mir.Val.{bytes}
use Rattle.types.specs.Choice.{pick}
use Rattle.types.specs.Values.{value, wide_of}
use Rattle.types.specs.declared.Wide.{Wide}
use Rattle.types.specs.declared.Integer.{Integer}
use Rattle.types.specs.declared.Integer.TheVariants as I
use Rattle.types.specs.declared.Refusal.{Refusal}
use Rattle.types.specs.declared.Refusal.TheVariants as R
use Rattle.cast.specs.Variants.{width, variant, in_range}
use Rattle.cast.specs.Casts.{cast, castable}
use Rattle.cast.proofs.Ranges.{is_natural}
use Rattle.recast.specs.Recasts.{cast_to, recast}

-- what a cast answered, mapped
abbrev pub Mapped : {X : Type 0} → (X → Integer) → Result X Refusal → Result Integer Refusal → Type 0
Mapped of q r = MatchResult q (λ v. IsOkAnd r (λ y. y ≡ of v)) (λ why. r ≡ Err why)

is_mapped : {X : Type 0} (of : X → Integer) (taken : ℤ → X) (s : Sign) (w : Width) (x : Integer) (q : Result X Refusal)
    (r : Result Integer Refusal) → q ≡ cast s w (λ z. Ok (taken z)) Err x → Mapped of q r →
    (castable s w x ≡ true → of (taken (value x)) ≡ variant s w (value x)) → r ≡ cast_to s w x
unfolding cast
is_mapped {X} of taken s w x q r e m k = by (castable s w x) refl (rw e at m)
  where
    took : (r : Result Integer Refusal) → IsOkAnd r (λ y. y ≡ of (taken (value x))) → r ≡ Ok (of (taken (value x)))
    took (Ok y) h = ap Ok h
    took (Err why) h = absurd h

    by : (b : Bool) → castable s w x ≡ b →
        Mapped of (pick b (Ok (taken (value x))) (Err R.ImpreciseCastWouldLoseData)) r → r ≡ cast_to s w x
    by true p m = took r m ∙ ap Ok (k p) ∙ simp p
    by false p m = m ∙ simp p

in_its_range : (s : Sign) (w : Width) (x : Integer) → castable s w x ≡ true → in_range s w (value x) ≡ true
in_its_range s w x = by (leb (bytes (width x)) (bytes w)) (in_range s w (value x))
  where
    by : (a b : Bool) → (a && b) ≡ true → b ≡ true
    by true b h = h
    by false b h = absurd (false≢true h)

module _ (x : Integer) (r : Result Integer Refusal) where
  pub signed_mapped : (w : Width) (q : Result ℤ Refusal) → q ≡ cast signed w Ok Err x →
      Mapped (variant signed w) q r → r ≡ cast_to signed w x
  signed_mapped w q e m = is_mapped (variant signed w) (λ z. z) signed w x q r e m (λ p. refl)

  pub unsigned_mapped : (w : Width) (q : Result ℕ Refusal) → q ≡ cast unsigned w (λ z. Ok (nat_abs z)) Err x →
      Mapped (λ n. variant unsigned w (pos n)) q r → r ≡ cast_to unsigned w x
  unsigned_mapped w q e m =
      is_mapped (λ n. variant unsigned w (pos n)) nat_abs unsigned w x q r e m
      (λ p. ap (variant unsigned w) (is_natural w (value x) (in_its_range unsigned w x p)))

  pub signed_words_mapped : (q : Result Wide Refusal) → q ≡ cast signed w128 (λ z. Ok (wide_of z)) Err x →
      Mapped I.I128 q r → r ≡ cast_to signed w128 x
  signed_words_mapped q e m = is_mapped I.I128 wide_of signed w128 x q r e m (λ p. refl)

  pub unsigned_words_mapped : (q : Result Wide Refusal) → q ≡ cast unsigned w128 (λ z. Ok (wide_of z)) Err x →
      Mapped I.U128 q r → r ≡ cast_to unsigned w128 x
  unsigned_words_mapped q e m = is_mapped I.U128 wide_of unsigned w128 x q r e m (λ p. refl)

-- the number names the target
pub numbered : (to n : ℕ) (x : Integer) (r : Result Integer Refusal) → to ≡ n → r ≡ recast n x → r ≡ recast to x
numbered to n x r is e = rw is e

pub ruleset number_ends = (numbered, signed_mapped, unsigned_mapped, signed_words_mapped, unsigned_words_mapped, rules)
