-- What the number and special writers write. Document 01, "Bytes of an atom" and "Refusals by number".
use Rattle.std.specs.Prelude.{ℕ, ◌-◌, Bool, List, ◌++◌, ℤ, length, Result, Err}
use Rattle.types.specs.declared.Refusal.{Refusal}
use Rattle.types.specs.Choice.{pick}
use Rattle.types.specs.Kinds.{special_code}
use Rattle.types.specs.Values.{joined, joined_signed}
use Rattle.types.specs.declared.Kind.{Kind}
use Rattle.types.specs.declared.Kind.TheVariants as K
use Rattle.types.specs.declared.Special.{Special}
use Rattle.types.specs.declared.Special.TheVariants as S
use Rattle.types.specs.declared.Integer.{Integer}
use Rattle.types.specs.declared.Integer.TheVariants as I
use Rattle.types.specs.declared.Refusal.TheVariants as R
use Rattle.lent.specs.Lent.{written_answer, written_content}
use Rattle.header.specs.Header.{header_bytes}
use Rattle.little.specs.Le.{to_le}
use Rattle.little.specs.Twos.{twos_bits}
use Rattle.little.specs.Counts.{shortest_u, shortest_s}

-- a number of that many bytes: "byte count is argument + 1", "little endian"
unfoldable pub integer_bytes : Kind → ℕ → ℕ → List ℕ
integer_bytes kind count bits = header_bytes kind (count - 1) ++ to_le count bits

-- "Writers use the smallest count that holds the value"; "Int in two's complement"
unfoldable pub signed_bytes : ℤ → List ℕ
signed_bytes z = integer_bytes K.Int (shortest_s z) (twos_bits (shortest_s z) z)

unfoldable pub unsigned_bytes : ℕ → List ℕ
unsigned_bytes k = integer_bytes K.UInt (shortest_u k) k

-- an integer's value, in the kind of its variant
unfoldable pub value_bytes : Integer → List ℕ
value_bytes (I.I8 z) = signed_bytes z
value_bytes (I.I16 z) = signed_bytes z
value_bytes (I.I32 z) = signed_bytes z
value_bytes (I.I64 z) = signed_bytes z
value_bytes (I.I128 w) = signed_bytes (joined_signed w)
value_bytes (I.U8 k) = unsigned_bytes k
value_bytes (I.U16 k) = unsigned_bytes k
value_bytes (I.U32 k) = unsigned_bytes k
value_bytes (I.U64 k) = unsigned_bytes k
value_bytes (I.U128 w) = unsigned_bytes (joined w)

-- a special: its header only
abbrev pub special_bytes : Special → List ℕ
special_bytes special = header_bytes K.Special (special_code special)

-- the special of a truth value
abbrev pub truth : Bool → Special
truth boolean = pick boolean S.True S.False

-- "Bytes: argument bytes follow."
abbrev pub bytes_bytes : List ℕ → List ℕ
bytes_bytes value = header_bytes K.Bytes (length value) ++ value

-- "8 ImpreciseCastWouldLoseData: value outside a 24 or 48 bit writer"; "Refusal 8 comes before 9."
abbrev pub held_answer : Bool → List ℕ → List ℕ → Result ℕ Refusal
held_answer held bytes old = pick held (written_answer bytes old) (Err R.ImpreciseCastWouldLoseData)

abbrev pub held_content : Bool → List ℕ → List ℕ → List ℕ
held_content held bytes old = pick held (written_content bytes old) old
