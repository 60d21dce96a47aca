-- Integers read from bytes. Document 01, "Bytes of an atom": "Int and UInt: byte count is argument + 1; counts 1, 2, 3,
-- 4, 6, 8, 16; little endian, Int in two's complement", and "Refusals by number".
use Rattle.std.specs.Prelude.{ℕ, ◌+◌, Bool, true, List, eqb, leb, length, Ok, Err}
use Rattle.types.specs.Answers.{IntegerAnswer}
use Rattle.types.specs.Choice.{pick}
use Rattle.types.specs.Counters.{place_in}
use Rattle.types.specs.Kinds.{kind_code}
use Rattle.types.specs.Ways.{up_to}
use Rattle.types.specs.Values.{words}
use Rattle.types.specs.Forms.{allowed_count, unsupported}
use Rattle.types.specs.declared.Way.{Way}
use Rattle.types.specs.declared.Kind.{Kind}
use Rattle.types.specs.declared.Kind.TheVariants as K
use Rattle.types.specs.declared.Integer.{Integer}
use Rattle.types.specs.declared.Integer.TheVariants as I
use Rattle.types.specs.declared.Refusal.TheVariants as R
use Rattle.little.specs.Le.{number_at}
use Rattle.little.specs.Twos.{twos}

-- "Read results are I8, I16, I32 (3 and 4 bytes), I64 (6 and 8), I128": of that many bytes that hold v, an allowed
-- count
unfoldable pub int_of : ℕ → ℕ → Integer
int_of count v =
    pick (eqb count 1) (I.I8 (twos count v))
    (pick (eqb count 2) (I.I16 (twos count v))
    (pick (leb count 4) (I.I32 (twos count v))
    (pick (leb count 8) (I.I64 (twos count v)) (I.I128 (words v)))))

-- "and the same for U"
unfoldable pub uint_of : ℕ → ℕ → Integer
uint_of count v =
    pick (eqb count 1) (I.U8 v)
    (pick (eqb count 2) (I.U16 v)
    (pick (leb count 4) (I.U32 v)
    (pick (leb count 8) (I.U64 v) (I.U128 (words v)))))

-- whether a kind is Int or UInt
abbrev pub integer_kind : Kind → Bool
integer_kind kind = pick (eqb (kind_code kind) 1) true (eqb (kind_code kind) 2)

-- the integer of an atom of kind Int, else UInt
abbrev pub integer_of : Kind → ℕ → ℕ → Integer
integer_of kind count v = pick (eqb (kind_code kind) 1) (int_of count v) (uint_of count v)

-- the bytes of a number of allowed kind and count, read at a place within the source; "4 Eof: end of slice"
unfoldable pub integer_body : Way → List ℕ → ℕ → Kind → ℕ → IntegerAnswer
integer_body way source at kind count =
    up_to way (length source) (at + count)
    (λ p. Ok (record { 0 = p }, integer_of kind count (number_at count source at)))
    (Err (record { 0 = length source }, R.Eof))

-- "7 UnexpectedKind(kind, wanted): number read asked of another kind (wanted: Int for integer reads), before the count
-- is judged: unchanged"; "6 UnsupportedByteCount(kind, count): number width not allowed"; "A number read asked for
-- directly charges nothing; its refusal 6 leaves the place."
unfoldable pub integer_from : Way → List ℕ → ℕ → Kind → ℕ → IntegerAnswer
integer_from way source at kind count =
    pick (integer_kind kind)
    (pick (allowed_count count) (integer_body way source at kind count)
    (Err (record { 0 = at }, unsupported kind count)))
    (Err (record { 0 = at }, R.UnexpectedKind kind K.Int))

-- an integer read at any place
abbrev pub integer_read : Way → List ℕ → ℕ → Kind → ℕ → IntegerAnswer
integer_read way source place kind count = integer_from way source (place_in (length source) place) kind count
