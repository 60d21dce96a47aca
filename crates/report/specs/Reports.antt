-- What the tally program finds of a file. Document 01, "Tally".
use Rattle.std.specs.Prelude.{ℕ, ◌+◌, List, ltb, length, drop, Result, Ok, Err}
use Rattle.types.specs.Answers.{VersionAnswer}
use Rattle.types.specs.Choice.{pick}
use Rattle.types.specs.declared.Way.TheVariants as W
use Rattle.types.specs.declared.Refusal.TheVariants as R
use Rattle.types.specs.declared.Refusal.{Refusal}
use Rattle.types.specs.declared.Place.{Place}
use Rattle.types.specs.declared.Tallied.{Tallied}
use Rattle.types.specs.declared.TallyAnswer.{TallyAnswer}
use Rattle.types.specs.declared.TallyAnswer.TheVariants as TA
use Rattle.header.specs.Signature.{version_read}
use Rattle.dictionary.specs.Runs.{tally_all}

-- "10 TooLong: its program over 65,536"
abbrev pub most_file_bytes : ℕ
most_file_bytes = 65_536

-- "Signature: four bytes"
abbrev pub signature_length : ℕ
signature_length = 4

-- what is found of a file: its version, how many bytes follow the signature and their tally; or the refusal, and where
-- the refused atom starts in the file
abbrev pub Report : Type 0
Report = Result (ℕ × ℕ × Tallied) (Refusal × Place)

-- what follows the signature
abbrev pub after_signature : List ℕ → List ℕ
after_signature file = drop signature_length file

-- "version is the signature's low byte; bytes counts all after the signature; the others are the tally's"; "`at=` where
-- the refused atom starts in the file, signature counted (0 for signature and length)"
abbrev pub counted : List ℕ → ℕ → TallyAnswer → Report
counted file version (TA.Done last t) = Ok (version, length (after_signature file), t)
counted file version (TA.Stopped last r start) = Err (r, record { 0 = signature_length + start.0 })
counted file version (TA.Refused last r) = Err (r, record { 0 = 0 })

-- "0 for signature and length"
abbrev pub report_after : List ℕ → VersionAnswer → Report
report_after file (Ok (place, version)) = counted file version (tally_all (after_signature file))
report_after file (Err (place, r)) = Err (r, record { 0 = 0 })

-- THE REPORT: "judges its whole length, signature counted, then reads the signature exactly"
unfoldable pub report_of : List ℕ → Report
report_of file =
    pick (ltb most_file_bytes (length file)) (Err (R.TooLong, record { 0 = 0 }))
    (report_after file (version_read W.ExactLent file 0))
