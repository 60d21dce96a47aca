-- This paper's number and data of each refusal. Document 01, "Refusals by number"; document 02, K3: "11 NotShortest".
use Rattle.std.specs.Prelude.{ℕ, List, [], ◌∷◌}
use Rattle.types.specs.Kinds.{kind_code}
use Rattle.types.specs.declared.Refusal.{Refusal}
use Rattle.types.specs.declared.Refusal.TheVariants as R

-- the column "No."
abbrev pub refusal_number : Refusal → ℕ
refusal_number R.IncompatibleVersion = 1
refusal_number (R.InvalidKind code) = 2
refusal_number (R.UnknownSpecial value) = 3
refusal_number R.Eof = 4
refusal_number R.TooManyBytesRead = 5
refusal_number (R.UnsupportedByteCount kind count) = 6
refusal_number (R.UnexpectedKind kind wanted) = 7
refusal_number R.ImpreciseCastWouldLoseData = 8
refusal_number R.NoRoom = 9
refusal_number R.TooLong = 10
refusal_number R.NotShortest = 11

-- the data in parentheses beside the number, kinds by their codes
abbrev pub refusal_data : Refusal → List ℕ
refusal_data R.IncompatibleVersion = []
refusal_data (R.InvalidKind code) = code ∷ []
refusal_data (R.UnknownSpecial value) = value ∷ []
refusal_data R.Eof = []
refusal_data R.TooManyBytesRead = []
refusal_data (R.UnsupportedByteCount kind count) = kind_code kind ∷ count ∷ []
refusal_data (R.UnexpectedKind kind wanted) = kind_code kind ∷ kind_code wanted ∷ []
refusal_data R.ImpreciseCastWouldLoseData = []
refusal_data R.NoRoom = []
refusal_data R.TooLong = []
refusal_data R.NotShortest = []

-- refusal 9 of a write, or a string, that takes that many bytes; "a refusal returns its number and data only"
abbrev pub no_room : ℕ → Refusal
no_room needed = R.NoRoom
