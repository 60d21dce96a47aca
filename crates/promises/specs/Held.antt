-- What an atom that was read holds, told from its bytes, and what is copied of them. Document 01, "Bytes of an atom"
-- and "Two ways of reading".
use Rattle.std.specs.Prelude.{ℕ, List, [], ◌∷◌, ◌++◌, eqb, leb, ℤ, pos, take, drop}
use Rattle.types.specs.Choice.{pick}
use Rattle.types.specs.Kinds.{kind_code}
use Rattle.types.specs.Forms.{count_of}
use Rattle.types.specs.declared.Way.{Way}
use Rattle.types.specs.declared.Kind.{Kind}
use Rattle.types.specs.declared.Kind.TheVariants as K
use Rattle.reader.specs.Strings.{string_mark}
use Rattle.little.specs.Le.{number_at}
use Rattle.little.specs.Twos.{twos}
use Rattle.binary.specs.Formats.{meaning}
use Rattle.float.specs.Floats.{layout_at}
use Rattle.promises.specs.Told.{meaning_told, mark_told}

-- "Read results are I8, I16, I32 (3 and 4 bytes), I64 (6 and 8), I128, and the same for U": how many bits wide
abbrev pub bits_at : ℕ → ℕ
bits_at count =
    pick (eqb count 1) 8 (pick (eqb count 2) 16 (pick (leb count 4) 32 (pick (leb count 8) 64 128)))

-- "little endian, Int in two's complement": of that many bytes that hold v, signed or not, how wide, and the value
abbrev pub int_held : ℕ → ℕ → List ℤ
int_held count v = pos 1 ∷ pos (bits_at count) ∷ twos count v ∷ []

abbrev pub uint_held : ℕ → ℕ → List ℤ
uint_held count v = pos 0 ∷ pos (bits_at count) ∷ pos v ∷ []

abbrev pub integer_held : Kind → ℕ → ℕ → List ℤ
integer_held kind count v = pick (eqb (kind_code kind) 1) (int_held count v) (uint_held count v)

-- "Two bytes read as an F32": how wide the float is, and what the stored bits mean in the format of that count, its
-- sign and its magnitude in units of 2^-1074, an infinity, or the NaN
abbrev pub float_held : ℕ → ℕ → List ℤ
float_held count bits = pos (pick (eqb count 8) 64 32) ∷ meaning_told (meaning (layout_at count) bits)

-- "Specials 0 to 6: None, Unit, False, True, Named, DynamicMap, DynamicEnd", by the cases of what an atom holds
abbrev pub special_held : ℕ → List ℤ
special_held arg =
    pick (eqb arg 0) (pos 0 ∷ [])
    (pick (eqb arg 1) (pos 5 ∷ [])
    (pick (eqb arg 2) (pos 1 ∷ pos 0 ∷ [])
    (pick (eqb arg 3) (pos 1 ∷ pos 1 ∷ [])
    (pick (eqb arg 4) (pos 6 ∷ [])
    (pick (eqb arg 5) (pos 7 ∷ []) (pos 8 ∷ []))))))

-- what an atom of a kind and an argument holds, whose body starts at that place of the source: a float its stored bits
-- beside what they mean, a string its mark; "Sequence, Map and Symbol are their header only."
abbrev pub held : Way → List ℕ → ℕ → Kind → ℕ → List ℤ
held way s at K.Special arg = special_held arg
held way s at K.Int arg = pos 2 ∷ int_held (count_of arg) (number_at (count_of arg) s at)
held way s at K.UInt arg = pos 2 ∷ uint_held (count_of arg) (number_at (count_of arg) s at)
held way s at K.Float arg =
    pos 3 ∷ pos (number_at (count_of arg) s at) ∷ float_held (count_of arg) (number_at (count_of arg) s at)
held way s at K.Sequence arg = pos 0 ∷ []
held way s at K.Map arg = pos 0 ∷ []
held way s at K.Symbol arg = pos 0 ∷ []
held way s at K.Bytes arg = pos 4 ∷ mark_told (string_mark way at arg)

-- "Copying fills the first bytes and the rest keep their value": n bytes of the source from a place on, in a lent
-- buffer
abbrev pub copied : List ℕ → ℕ → ℕ → List ℕ → List ℕ
copied s at n old = take n (drop at s) ++ drop n old
