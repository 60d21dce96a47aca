-- WHAT THE KIND AND THE ARGUMENT OF A HEADER MEAN: whether such an atom is known, how long its body is, what it costs,
-- whether it is a string, and its refusal if it is not known. This is the one home of it: the readers of an atom and of
-- a number, the step, the run, the tally, the writers' counts and the promises all cite it. Document 01, "Bytes of an
-- atom" and "Charges".
use Rattle.std.specs.Prelude.{ℕ, ◌+◌, ◌%◌, ◌^◌, Bool, true, false, List, [], ◌∷◌, ltb, eqb}
use Rattle.types.specs.Choice.{pick}
use Rattle.types.specs.declared.Kind.{Kind}
use Rattle.types.specs.declared.Kind.TheVariants as K
use Rattle.types.specs.declared.Refusal.{Refusal}
use Rattle.types.specs.declared.Refusal.TheVariants as R

-- The byte counts that are read. "Int and UInt: counts 1, 2, 3, 4, 6, 8, 16"
abbrev pub integers_read : List ℕ
integers_read = 1 ∷ 2 ∷ 3 ∷ 4 ∷ 6 ∷ 8 ∷ 16 ∷ []

-- "Float: counts 2, 4, 8."
abbrev pub floats_read : List ℕ
floats_read = 2 ∷ 4 ∷ 8 ∷ []

-- The byte counts that integers are written with, a list of its own: "Writers use the smallest count that holds the
-- value."
abbrev pub integers_written : List ℕ
integers_written = 1 ∷ 2 ∷ 3 ∷ 4 ∷ 6 ∷ 8 ∷ 16 ∷ []

-- whether a number is one of a list
unfoldable pub listed : ℕ → List ℕ → Bool
listed c [] = false
listed c (d ∷ ds) = pick (eqb c d) true (listed c ds)

-- whether a count of bytes is one that an integer is read with, and one that a float is
abbrev pub allowed_count : ℕ → Bool
allowed_count count = listed count integers_read

abbrev pub allowed_float : ℕ → Bool
allowed_float count = listed count floats_read

-- how many sizes there are: in the release build for 64 bits a size is a number modulo this
abbrev pub sizes : ℕ
sizes = 2 ^ 64

-- "byte count is argument + 1"; "Argument 2^64 - 1 gives count 0, as in the release build."
abbrev pub count_of : ℕ → ℕ
count_of arg = (arg + 1) % sizes

-- "Int, UInt and Float: the byte count, but 3 costs 4 and 6 costs 8."
abbrev pub number_charge : ℕ → ℕ
number_charge count = pick (eqb count 3) 4 (pick (eqb count 6) 8 count)

-- "6 UnsupportedByteCount(kind, count): number width not allowed"
abbrev pub unsupported : Kind → ℕ → Refusal
unsupported kind count = R.UnsupportedByteCount kind count

-- WHETHER AN ATOM IS KNOWN: "Specials 0 to 6"; a number of a count that is read
abbrev pub known : Kind → ℕ → Bool
known K.Special arg = ltb arg 7
known K.Int arg = allowed_count (count_of arg)
known K.UInt arg = allowed_count (count_of arg)
known K.Float arg = allowed_float (count_of arg)
known K.Sequence arg = true
known K.Map arg = true
known K.Symbol arg = true
known K.Bytes arg = true

-- THE LENGTH OF ITS BODY: "body bytes (all after an atom's header)"; "byte count is argument + 1", "Bytes: argument
-- bytes follow. Sequence, Map and Symbol are their header only."
abbrev pub body_length : Kind → ℕ → ℕ
body_length K.Special arg = 0
body_length K.Int arg = count_of arg
body_length K.UInt arg = count_of arg
body_length K.Float arg = count_of arg
body_length K.Sequence arg = 0
body_length K.Map arg = 0
body_length K.Symbol arg = 0
body_length K.Bytes arg = arg

-- ITS CHARGE: "Int, UInt and Float: the byte count, but 3 costs 4 and 6 costs 8. Bytes: the string's length. Others:
-- nothing."
abbrev pub charge_of : Kind → ℕ → ℕ
charge_of K.Special arg = 0
charge_of K.Int arg = number_charge (count_of arg)
charge_of K.UInt arg = number_charge (count_of arg)
charge_of K.Float arg = number_charge (count_of arg)
charge_of K.Sequence arg = 0
charge_of K.Map arg = 0
charge_of K.Symbol arg = 0
charge_of K.Bytes arg = arg

-- WHETHER IT IS A STRING
abbrev pub is_string : Kind → Bool
is_string K.Special = false
is_string K.Int = false
is_string K.UInt = false
is_string K.Float = false
is_string K.Sequence = false
is_string K.Map = false
is_string K.Symbol = false
is_string K.Bytes = true

-- ITS REFUSAL, if it is not known: "3 UnknownSpecial(value)", "6 UnsupportedByteCount(kind, count)"; an atom of another
-- kind is always known
abbrev pub unknown : Kind → ℕ → Refusal
unknown K.Special arg = R.UnknownSpecial arg
unknown K.Int arg = unsupported K.Int (count_of arg)
unknown K.UInt arg = unsupported K.UInt (count_of arg)
unknown K.Float arg = unsupported K.Float (count_of arg)
unknown K.Sequence arg = R.Eof
unknown K.Map arg = R.Eof
unknown K.Symbol arg = R.Eof
unknown K.Bytes arg = R.Eof
