-- The raw byte read of both readers into a lent buffer. Document 01, "Two ways of reading", and `Read` of reader.rs.
-- Each definition takes the source, the place given, and the buffer as it was.
use Rattle.std.specs.Prelude.{ℕ, ◌+◌, ◌&&◌, List, length, Ok, Err}
use Rattle.types.specs.Answers.{RawAnswer}
use Rattle.types.specs.Choice.{pick}
use Rattle.types.specs.Ways.{exact}
use Rattle.types.specs.declared.Way.{Way}
use Rattle.types.specs.declared.Refusal.TheVariants as R
use Rattle.lent.specs.Lent.{copied_over}
use Rattle.reader.specs.Strings.{start_of, string_of, runs_out}

-- the bytes that are read: as many as the buffer holds, or as are left
abbrev pub raw_bytes : List ℕ → ℕ → List ℕ → List ℕ
raw_bytes s place buffer = string_of s place (length buffer)

-- their count, and "the place stops at the end"
unfoldable pub raw_answer : List ℕ → ℕ → List ℕ → RawAnswer
raw_answer s place buffer =
    Ok (record { 0 = start_of s place + length (raw_bytes s place buffer) }, length (raw_bytes s place buffer))

-- they fill the first bytes of the buffer, "and the rest keep their value"
unfoldable pub raw_buffer : List ℕ → ℕ → List ℕ → List ℕ
raw_buffer s place buffer = copied_over (raw_bytes s place buffer) buffer

-- a buffer to be filled whole: "Exact reading: anything past the end is refused", 4 with "end of slice"; filled reading
-- takes what is left
unfoldable pub raw_exactly : Way → List ℕ → ℕ → List ℕ → RawAnswer
raw_exactly way s place buffer =
    pick (exact way && runs_out s place (length buffer)) (Err (record { 0 = length s }, R.Eof))
    (raw_answer s place buffer)

-- on a refusal "buffers keep their bytes"
unfoldable pub raw_exactly_buffer : Way → List ℕ → ℕ → List ℕ → List ℕ
raw_exactly_buffer way s place buffer =
    pick (exact way && runs_out s place (length buffer)) buffer (raw_buffer s place buffer)
