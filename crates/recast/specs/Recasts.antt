-- Integers that come in as numbers, and casts that name their target by a number: the variants count from 0 on, as
-- `words.Layout.variant_code` has them. Document 01, "Casts".
use Rattle.std.specs.Prelude.{ℕ, ltb, eqb, pos, Result, Ok, Err}
use mir.Syntax.{Sign, unsigned, signed, Width, w8, w16, w32, w64, w128}
use Rattle.types.specs.Choice.{pick}
use Rattle.types.specs.declared.Wide.{Wide}
use Rattle.types.specs.declared.Integer.{Integer}
use Rattle.types.specs.declared.Refusal.{Refusal}
use Rattle.types.specs.declared.Refusal.TheVariants as R
use Rattle.types.specs.Values.{joined, joined_signed}
use Rattle.cast.specs.Variants.{variant}
use Rattle.cast.specs.Casts.{cast}
use Rattle.cast.specs.Froms.{from}

-- the cast to a sign and a width, as an integer of that variant
abbrev pub cast_to : Sign → Width → Integer → Result Integer Refusal
cast_to s w x = cast s w (λ z. Ok (variant s w z)) Err x

-- the cast to the variant of a number; a number that names none is refused like a value that does not fit
unfoldable pub recast : ℕ → Integer → Result Integer Refusal
recast n x =
    pick (eqb n 0) (cast_to signed w8 x)
    (pick (eqb n 1) (cast_to signed w16 x)
    (pick (eqb n 2) (cast_to signed w32 x)
    (pick (eqb n 3) (cast_to signed w64 x)
    (pick (eqb n 4) (cast_to signed w128 x)
    (pick (eqb n 5) (cast_to unsigned w8 x)
    (pick (eqb n 6) (cast_to unsigned w16 x)
    (pick (eqb n 7) (cast_to unsigned w32 x)
    (pick (eqb n 8) (cast_to unsigned w64 x)
    (pick (eqb n 9) (cast_to unsigned w128 x)
    (Err R.ImpreciseCastWouldLoseData))))))))))

-- what `From` makes of two words: of a signed variant they are two's complement
abbrev pub from_words : ℕ → Wide → Integer
from_words n w = pick (ltb n 5) (from signed w128 (joined_signed w)) (from unsigned w128 (pos (joined w)))

-- the integer of a variant, given by its number and its value's words
unfoldable pub integer_of_words : ℕ → Wide → Result Integer Refusal
integer_of_words n w = recast n (from_words n w)

-- what is done with an integer that came in; a refused one is answered as such
abbrev pub of_integer : {X : Type 0} → (Integer → X) → (Refusal → X) → Result Integer Refusal → X
of_integer taken refused (Ok x) = taken x
of_integer taken refused (Err r) = refused r
