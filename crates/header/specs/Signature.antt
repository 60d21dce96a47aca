-- The signature of a file. Document 01, "Bytes of an atom": "Signature: four bytes, big endian. It is taken if every
-- bit of 0x506F7400 is set; the low byte is the version, any value. Writers write 0x506F7400 with the version."
use Rattle.std.specs.Prelude.{ℕ, zero, suc, ◌+◌, ◌*◌, ◌/◌, ◌%◌, Bool, true, ◌&&◌, List, [], ◌∷◌, leb, length, drop, get_or, Ok, Err}
use Rattle.types.specs.Answers.{VersionAnswer}
use Rattle.types.specs.Choice.{pick}
use Rattle.types.specs.Ways.{up_to}
use Rattle.types.specs.Counters.{place_in}
use Rattle.types.specs.declared.Way.{Way}
use Rattle.types.specs.declared.Place.{Place}
use Rattle.types.specs.declared.Refusal.TheVariants as R

-- 'Pot' and a zero byte
abbrev pub signature : ℕ
signature = 0x506F7400

-- "four bytes, big endian": the number of the bytes from their place on; past their end a byte reads as zero
unfoldable pub big_endian : List ℕ → ℕ
big_endian bytes =
    get_or bytes 0 0 * 0x1000000 + get_or bytes 1 0 * 0x10000 + get_or bytes 2 0 * 0x100 + get_or bytes 3 0

-- whether each of the lowest `bits` bits that the mask has is in the word
unfoldable pub every_bit : ℕ → ℕ → ℕ → Bool
every_bit zero mask word = true
every_bit (suc bits) mask word = leb (mask % 2) (word % 2) && every_bit bits (mask / 2) (word / 2)

-- "It is taken if every bit of 0x506F7400 is set; the low byte is the version, any value."
abbrev pub judged : ℕ → Place → VersionAnswer
judged word place =
    pick (every_bit 32 signature word) (Ok (place, word % 256)) (Err (place, R.IncompatibleVersion))

-- the signature read at a place within the source; "1 IncompatibleVersion: place past 4 bytes or at end", "4 Eof: end
-- of slice"
unfoldable pub version_from : Way → List ℕ → ℕ → VersionAnswer
version_from way source at =
    up_to way (length source) (at + 4)
    (λ p. judged (big_endian (drop at source)) (record { 0 = p }))
    (Err (record { 0 = length source }, R.Eof))

-- the signature read at any place
abbrev pub version_read : Way → List ℕ → ℕ → VersionAnswer
version_read way source place = version_from way source (place_in (length source) place)

-- "Writers write 0x506F7400 with the version."
unfoldable pub signature_bytes : ℕ → List ℕ
signature_bytes version =
    ((signature + version) / 0x1000000 % 256)
    ∷ ((signature + version) / 0x10000 % 256)
    ∷ ((signature + version) / 0x100 % 256)
    ∷ ((signature + version) % 256)
    ∷ []
