-- The atom header, read and written. Document 01, "Bytes of an atom": "Header, first byte: kind in the top 3 bits, 0x10
-- if more bytes follow, low 4 bits of the argument."
use Rattle.std.specs.Prelude.{ℕ, zero, suc, ◌+◌, ◌*◌, ◌/◌, ◌%◌, ◌^◌, Bool, List, [], ◌∷◌, ltb, eqb, length, drop, Ok, Err}
use Rattle.types.specs.Answers.{HeaderAnswer}
use Rattle.types.specs.Choice.{pick}
use Rattle.types.specs.Kinds.{kind_code, kind_from, kind_known}
use Rattle.types.specs.Ways.{up_to}
use Rattle.types.specs.Counters.{place_in}
use Rattle.types.specs.declared.Way.{Way}
use Rattle.types.specs.declared.Kind.{Kind}
use Rattle.types.specs.declared.Refusal.TheVariants as R

-- A header is read off the bytes from its place on. Past their end a byte reads as zero, so that both ways of reading
-- share what follows: they differ only where the header ends past the source.

-- "Each later byte has 7 bits, lowest first, and 0x80 if another follows." How many there are, if `left` may follow
unfoldable pub later_count : ℕ → List ℕ → ℕ
later_count zero bytes = 0
later_count (suc left) [] = 1
later_count (suc left) (b ∷ bytes) = pick (ltb b 128) 1 (suc (later_count left bytes))

-- the number that they hold
unfoldable pub later_value : ℕ → List ℕ → ℕ
later_value zero bytes = 0
later_value (suc left) [] = 0
later_value (suc left) (b ∷ bytes) = b % 128 + 128 * pick (ltb b 128) 0 (later_value left bytes)

-- "The tenth byte always ends it": nine may follow the first
abbrev pub most_later : ℕ
most_later = 9

-- the first byte
abbrev pub first_byte : List ℕ → ℕ
first_byte [] = 0
first_byte (b ∷ bytes) = b

-- the bytes after the first
abbrev pub after_first : List ℕ → List ℕ
after_first [] = []
after_first (b ∷ bytes) = bytes

-- "0x10 if more bytes follow"
abbrev pub more_follow : ℕ → Bool
more_follow first = eqb (first / 16 % 2) 1

-- "kind in the top 3 bits"
abbrev pub header_kind : List ℕ → Kind
header_kind bytes = kind_known (kind_from (first_byte bytes / 32))

-- "low 4 bits of the argument", then the later bytes; "bits above 64 are dropped"
abbrev pub argument_from : ℕ → ℕ → ℕ
argument_from low later = (low + 16 * later) % 2 ^ 64

-- the argument
unfoldable pub header_argument : List ℕ → ℕ
header_argument bytes =
    argument_from (first_byte bytes % 16)
    (pick (more_follow (first_byte bytes)) (later_value most_later (after_first bytes)) 0)

-- how many bytes the header takes
unfoldable pub header_length : List ℕ → ℕ
header_length bytes = pick (more_follow (first_byte bytes)) (suc (later_count most_later (after_first bytes))) 1

-- the later bytes read at their place, where the kind and the low 4 bits are known
unfoldable pub later_from : Way → List ℕ → ℕ → Kind → ℕ → HeaderAnswer
later_from way source at kind low =
    up_to way (length source) (at + later_count most_later (drop at source))
    (λ p. Ok (record { 0 = p }, kind, argument_from low (later_value most_later (drop at source))))
    (Err (record { 0 = length source }, R.Eof))

-- a header read at a place within the source; "4 Eof: end of slice"
unfoldable pub header_from : Way → List ℕ → ℕ → HeaderAnswer
header_from way source at =
    up_to way (length source) (at + header_length (drop at source))
    (λ p. Ok (record { 0 = p }, header_kind (drop at source), header_argument (drop at source)))
    (Err (record { 0 = length source }, R.Eof))

-- a header read at any place
abbrev pub header_read : Way → List ℕ → ℕ → HeaderAnswer
header_read way source place = header_from way source (place_in (length source) place)

-- A header is written with the fewest bytes.

-- a number in groups of 7 bits, lowest first, in at most that many bytes
unfoldable pub later_bytes : ℕ → ℕ → List ℕ
later_bytes zero v = []
later_bytes (suc left) v = pick (ltb v 128) (v ∷ []) ((v % 128 + 128) ∷ later_bytes left (v / 128))

-- the header of a kind and an argument; "Writers use the fewest bytes, 1 to 10"
unfoldable pub header_bytes : Kind → ℕ → List ℕ
header_bytes kind arg =
    pick (ltb arg 16) ((kind_code kind * 32 + arg) ∷ [])
    ((kind_code kind * 32 + 16 + arg % 16) ∷ later_bytes most_later (arg / 16))
