-- Little-endian numbers over the byte count. Document 01, "Bytes of an atom": "little endian".
use Rattle.std.specs.Prelude.{ℕ, zero, suc, ◌+◌, ◌*◌, ◌/◌, ◌%◌, List, [], ◌∷◌, ◌++◌, take, drop, replicate}

-- the number of a list of bytes, lowest first
unfoldable pub from_le : List ℕ → ℕ
from_le [] = 0
from_le (b ∷ bs) = b + 256 * from_le bs

-- the n lowest bytes of a number, lowest first
unfoldable pub to_le : ℕ → ℕ → List ℕ
to_le zero k = []
to_le (suc n) k = k % 256 ∷ to_le n (k / 256)

-- the number of the n bytes at a place: "a header byte or number byte past the end reads as zero"
unfoldable pub number_at : ℕ → List ℕ → ℕ → ℕ
number_at n s at = from_le (take n (drop at s))

-- the n bytes at a place, of the source with zeros after it: "a header byte or number byte past the end reads as zero"
unfoldable pub filled_at : ℕ → List ℕ → ℕ → List ℕ
filled_at n s at = take n (drop at s ++ replicate n 0)
