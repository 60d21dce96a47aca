-- Floats read from bytes. Document 01, "Bytes of an atom": "Float: counts 2, 4, 8. Two bytes read as an F32", and
-- "Refusals by number". Beside a float's value stand its stored bits, since a NaN's sign and payload are in these
-- alone.
use Rattle.std.specs.Prelude.{ℕ, ◌+◌, Bool, List, eqb, length, Ok, Err}
use Rattle.std.specs.Float.{binary32, binary64}
use Rattle.std.specs.Float.Ieee.{of_bits}
use Rattle.types.specs.Answers.{FloatAnswer}
use Rattle.types.specs.Choice.{pick}
use Rattle.types.specs.Counters.{place_in}
use Rattle.types.specs.Kinds.{kind_code}
use Rattle.types.specs.Ways.{up_to}
use Rattle.types.specs.Forms.{allowed_float, unsupported}
use Rattle.types.specs.declared.Way.{Way}
use Rattle.types.specs.declared.Kind.{Kind}
use Rattle.types.specs.declared.Kind.TheVariants as K
use Rattle.types.specs.declared.Float.{Float}
use Rattle.types.specs.declared.Float.TheVariants as F
use Rattle.types.specs.declared.Refusal.TheVariants as R
use Rattle.little.specs.Le.{number_at}
use Rattle.binary.specs.Formats.{Layout, half, single, double}
use Rattle.binary.specs.Conversions.{widened}

-- the format of a count: binary16, binary32 or binary64
abbrev pub layout_at : ℕ → Layout
layout_at count = pick (eqb count 2) half (pick (eqb count 4) single double)

-- "Two bytes read as an F32", four too, and eight as an F64: the float of that many bytes that hold the bits, an
-- allowed count
unfoldable pub float_of : ℕ → ℕ → Float
float_of count bits =
    pick (eqb count 2) (F.F32 (of_bits binary32 (widened half single bits)))
    (pick (eqb count 4) (F.F32 (of_bits binary32 bits)) (F.F64 (of_bits binary64 bits)))

-- whether a kind is Float
abbrev pub float_kind : Kind → Bool
float_kind kind = eqb (kind_code kind) 3

-- the bytes of a float of allowed count, read at a place within the source; "4 Eof: end of slice"
unfoldable pub float_body : Way → List ℕ → ℕ → ℕ → FloatAnswer
float_body way source at count =
    up_to way (length source) (at + count)
    (λ p. Ok (record { 0 = p }, float_of count (number_at count source at), number_at count source at))
    (Err (record { 0 = length source }, R.Eof))

-- "7 UnexpectedKind(kind, wanted): number read asked of another kind (wanted: Float for float reads), before the count
-- is judged: unchanged"; "6 UnsupportedByteCount(kind, count): number width not allowed"; "A number read asked for
-- directly charges nothing; its refusal 6 leaves the place."
unfoldable pub float_from : Way → List ℕ → ℕ → Kind → ℕ → FloatAnswer
float_from way source at kind count =
    pick (float_kind kind)
    (pick (allowed_float count) (float_body way source at count)
    (Err (record { 0 = at }, unsupported K.Float count)))
    (Err (record { 0 = at }, R.UnexpectedKind kind K.Float))

-- a float read at any place
abbrev pub float_read : Way → List ℕ → ℕ → Kind → ℕ → FloatAnswer
float_read way source place kind count = float_from way source (place_in (length source) place) kind count
