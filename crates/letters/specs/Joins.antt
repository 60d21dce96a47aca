-- What the laws of letters are stated with: strings without the bytes that a mark begins with, 01's count before K2,
-- and where a join of two strings splits a mark.
use Rattle.std.specs.Prelude.{ℕ, ◌+◌, Bool, true, false, List, [], ◌∷◌, eqb}
use Rattle.types.specs.Choice.{pick}
use Rattle.letters.specs.Letters.{letter, mark}

-- the bytes that a mark begins with, "CC or CD"
abbrev pub lead : ℕ → Bool
lead b = pick (eqb b 0xCC) true (eqb b 0xCD)

-- a string without them
abbrev pub leadless : List ℕ → Bool
leadless [] = true
leadless (b ∷ rest) = pick (lead b) false (leadless rest)

-- what 01 counted before K2: every byte outside 0x80 to 0xBF
unfoldable pub letters_before : List ℕ → ℕ
letters_before [] = 0
letters_before (b ∷ rest) = letter b + letters_before rest

-- a string's first byte, and its last; 0, which is no mark's, if it has none
abbrev pub first : List ℕ → ℕ
first [] = 0
first (b ∷ rest) = b

abbrev pub last_from : ℕ → List ℕ → ℕ
last_from b [] = b
last_from b (c ∷ rest) = last_from c rest

abbrev pub last : List ℕ → ℕ
last a = last_from 0 a

-- a mark's first byte is the last of one string, and its second the first of the next
abbrev pub splits : List ℕ → List ℕ → Bool
splits a b = mark (last a) (first b)
