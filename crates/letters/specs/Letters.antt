-- The letters of a string. Document 01, "Tally", by document 02, K2.
use Rattle.std.specs.Prelude.{ℕ, ◌+◌, Bool, false, List, [], ◌∷◌, leb, eqb}
use Rattle.types.specs.Choice.{pick}

-- "80 to BF" and its like
abbrev pub between : ℕ → ℕ → ℕ → Bool
between low b high = pick (leb low b) (leb b high) false

-- 01: "A letter is a string byte outside 0x80 to 0xBF.": 1 for such a byte, else 0
abbrev pub letter : ℕ → ℕ
letter b = pick (between 0x80 b 0xBF) 0 1

-- K2: "the pair CC with 80 to BF, or CD with 80 to AF (U+0300 to U+036F)"
abbrev pub mark : ℕ → ℕ → Bool
mark b c = pick (eqb b 0xCC) (between 0x80 c 0xBF) (pick (eqb b 0xCD) (between 0x80 c 0xAF) false)

-- it "counts as no letter. Every other byte outside 80 to BF counts one, as before, also CC or CD before any other byte
-- or at the string's end.": what a byte counts, by itself and what follows it in its string
abbrev pub counts : ℕ → List ℕ → ℕ
counts b [] = letter b
counts b (c ∷ rest) = pick (mark b c) 0 (letter b)

-- how many a string has
unfoldable pub letters : List ℕ → ℕ
letters [] = 0
letters (b ∷ rest) = counts b rest + letters rest
