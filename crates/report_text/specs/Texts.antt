-- The text that the tally program prints of a file. Document 01, "Tally".
use Rattle.std.specs.Prelude.{ℕ, zero, suc, ◌+◌, ◌/◌, ◌%◌, List, [], ◌∷◌, ◌++◌, ltb, Ok, Err}
use Prim.Native.Char.{code}
use Prim.Native.String.{String, [] as []ˢ, ◌∷◌ as ◌∷ˢ◌}
use Rattle.report.specs.Reports.{Report}
use Rattle.types.specs.Choice.{pick}
use Rattle.types.specs.Refusals.{refusal_number}
use Rattle.types.specs.declared.Refusal.{Refusal}
use Rattle.types.specs.declared.Tallied.{Tallied}

-- the bytes of a text in ASCII
abbrev pub ascii : String → List ℕ
ascii []ˢ = []
ascii (c ∷ˢ text) = code c ∷ ascii text

-- a digit as it is printed
abbrev pub digit : ℕ → ℕ
digit d = 48 + d

-- a number's digits, the most significant first; at most `fuel` of them
unfoldable pub digits_from : ℕ → ℕ → List ℕ
digits_from zero n = []
digits_from (suc fuel) n = pick (ltb n 10) (digit n ∷ []) (digits_from fuel (n / 10) ++ (digit (n % 10) ∷ []))

-- "Numbers are decimal." No number n has more than n + 1 digits
abbrev pub decimal : ℕ → List ℕ
decimal n = digits_from (suc n) n

-- a line: its name with the `=`, the number and the line's end
abbrev pub line : List ℕ → ℕ → List ℕ
line name n = name ++ (decimal n ++ ascii "\n")

-- the tally's four lines
unfoldable pub tally_text : Tallied → List ℕ
tally_text t =
    line (ascii "atoms=") t.atoms
    ++ (line (ascii "body=") t.body.0
    ++ (line (ascii "charge=") t.charge
    ++ line (ascii "letters=") t.letters))

-- the seven lines of a file that was tallied
unfoldable pub counted_text : ℕ → ℕ → Tallied → List ℕ
counted_text version bytes t =
    line (ascii "ok=") 1
    ++ (line (ascii "version=") version
    ++ (line (ascii "bytes=") bytes
    ++ tally_text t))

-- "A refused file prints three lines only: `ok=0`, `refusal=` number, `at=` where the refused atom starts in the file"
unfoldable pub refused_text : Refusal → ℕ → List ℕ
refused_text r at = line (ascii "ok=") 0 ++ (line (ascii "refusal=") (refusal_number r) ++ line (ascii "at=") at)

-- THE TEXT of what is found of a file
abbrev pub report_text : Report → List ℕ
report_text (Ok (version, bytes, t)) = counted_text version bytes t
report_text (Err (r, start)) = refused_text r start.0
