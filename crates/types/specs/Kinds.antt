-- Kinds and specials and their codes. Document 01, "Bytes of an atom".
use Rattle.std.specs.Prelude.{ℕ, eqb, Result, Ok, Err}
use Rattle.types.specs.declared.Refusal.{Refusal}
use Rattle.types.specs.Choice.{pick}
use Rattle.types.specs.declared.Kind.{Kind}
use Rattle.types.specs.declared.Kind.TheVariants as K
use Rattle.types.specs.declared.Special.{Special}
use Rattle.types.specs.declared.Special.TheVariants as S
use Rattle.types.specs.declared.Refusal.TheVariants as R

-- "Kinds 0 to 7: Special, Int, UInt, Float, Sequence, Map, Symbol, Bytes."
abbrev pub kind_code : Kind → ℕ
kind_code K.Special = 0
kind_code K.Int = 1
kind_code K.UInt = 2
kind_code K.Float = 3
kind_code K.Sequence = 4
kind_code K.Map = 5
kind_code K.Symbol = 6
kind_code K.Bytes = 7

-- "2 InvalidKind(code): `Kind::from_u8` of 8 to 255"
abbrev pub kind_from : ℕ → Result Kind Refusal
kind_from n =
    pick (eqb n 0) (Ok K.Special)
    (pick (eqb n 1) (Ok K.Int)
    (pick (eqb n 2) (Ok K.UInt)
    (pick (eqb n 3) (Ok K.Float)
    (pick (eqb n 4) (Ok K.Sequence)
    (pick (eqb n 5) (Ok K.Map)
    (pick (eqb n 6) (Ok K.Symbol)
    (pick (eqb n 7) (Ok K.Bytes) (Err (R.InvalidKind n)))))))))

-- the kind that such an answer holds; Bytes of a refusal, which no three bits give
abbrev pub kind_known : Result Kind Refusal → Kind
kind_known (Ok k) = k
kind_known (Err r) = K.Bytes

-- "Specials 0 to 6: None, Unit, False, True, Named, DynamicMap, DynamicEnd."
abbrev pub special_code : Special → ℕ
special_code S.None = 0
special_code S.Unit = 1
special_code S.False = 2
special_code S.True = 3
special_code S.Named = 4
special_code S.DynamicMap = 5
special_code S.DynamicEnd = 6

-- "3 UnknownSpecial(value): special argument 7 or more"
abbrev pub special_from : ℕ → Result Special Refusal
special_from n =
    pick (eqb n 0) (Ok S.None)
    (pick (eqb n 1) (Ok S.Unit)
    (pick (eqb n 2) (Ok S.False)
    (pick (eqb n 3) (Ok S.True)
    (pick (eqb n 4) (Ok S.Named)
    (pick (eqb n 5) (Ok S.DynamicMap)
    (pick (eqb n 6) (Ok S.DynamicEnd) (Err (R.UnknownSpecial n))))))))

-- the special that such an answer holds; DynamicEnd of a refusal, which no argument below 7 gives
abbrev pub special_known : Result Special Refusal → Special
special_known (Ok special) = special
special_known (Err r) = S.DynamicEnd
