-- The string read. Document 01, "Two ways of reading" and "Refusals by number". Each definition takes the source, the
-- place given, the string's length and, where it copies, the scratch as it was.
use Rattle.std.specs.Prelude.{ℕ, ◌+◌, Bool, true, false, List, ltb, length, take, drop, Ok, Err}
use Rattle.types.specs.Answers.{BytesAnswer}
use Rattle.types.specs.Choice.{pick}
use Rattle.types.specs.Counters.{place_in}
use Rattle.types.specs.Refusals.{no_room}
use Rattle.types.specs.declared.Mark.{Mark}
use Rattle.types.specs.declared.Way.{Way}
use Rattle.types.specs.declared.Way.TheVariants as W
use Rattle.types.specs.declared.Refusal.TheVariants as R
use Rattle.lent.specs.Lent.{written_content}

-- where the string starts: "A given place past the end counts as the end."
abbrev pub start_of : List ℕ → ℕ → ℕ
start_of s place = place_in (length s) place

-- the string's bytes
abbrev pub string_of : List ℕ → ℕ → ℕ → List ℕ
string_of s place n = take n (drop (start_of s place) s)

-- "4 Eof: input ends: strings"
abbrev pub runs_out : List ℕ → ℕ → ℕ → Bool
runs_out s place n = ltb (length s) (start_of s place + n)

-- "end of slice"
abbrev pub string_eof : List ℕ → BytesAnswer
string_eof s = Err (record { 0 = length s }, R.Eof)

-- "lent, as the part of the source that holds it"
abbrev pub lent_mark : ℕ → ℕ → Mark
lent_mark start n = record { start = start; len = n; lent = true }

-- "or copied into scratch": "Copying fills the first bytes"
abbrev pub copied_mark : ℕ → Mark
copied_mark n = record { start = 0; len = n; lent = false }

-- the place just past the string, and its mark
abbrev pub string_read : List ℕ → ℕ → ℕ → Mark → BytesAnswer
string_read s place n m = Ok (record { 0 = start_of s place + n }, m)

-- a string lent
unfoldable pub lent_string : List ℕ → ℕ → ℕ → BytesAnswer
lent_string s place n =
    pick (runs_out s place n) (string_eof s) (string_read s place n (lent_mark (start_of s place) n))

-- a string copied: "then end of input, then scratch room"; "9 NoRoom: scratch shorter than the string", where it starts
unfoldable pub copied_string : List ℕ → ℕ → ℕ → List ℕ → BytesAnswer
copied_string s place n scratch =
    pick (runs_out s place n) (string_eof s)
    (pick (ltb (length scratch) n) (Err (record { 0 = start_of s place }, no_room n))
    (string_read s place n (copied_mark n)))

-- "Copying fills the first bytes and the rest keep their value"; on a refusal "buffers keep their bytes"
unfoldable pub copied_scratch : List ℕ → ℕ → ℕ → List ℕ → List ℕ
copied_scratch s place n scratch = pick (runs_out s place n) scratch (written_content (string_of s place n) scratch)

-- "Filled reading delivers it lent only." "Only a string can run out." So both lent ways agree on strings.
abbrev pub string_answer : Way → List ℕ → ℕ → ℕ → List ℕ → BytesAnswer
string_answer W.Filled s place n scratch = lent_string s place n
string_answer W.ExactLent s place n scratch = lent_string s place n
string_answer W.ExactCopied s place n scratch = copied_string s place n scratch

-- the scratch after a string read
abbrev pub string_scratch : Way → List ℕ → ℕ → ℕ → List ℕ → List ℕ
string_scratch W.Filled s place n scratch = scratch
string_scratch W.ExactLent s place n scratch = scratch
string_scratch W.ExactCopied s place n scratch = copied_scratch s place n scratch

-- the mark of a string that starts there and is so long
abbrev pub string_mark : Way → ℕ → ℕ → Mark
string_mark W.Filled start n = lent_mark start n
string_mark W.ExactLent start n = lent_mark start n
string_mark W.ExactCopied start n = copied_mark n

-- the bytes of scratch that a string of that length takes
abbrev pub scratch_needed : Way → ℕ → ℕ
scratch_needed W.Filled n = 0
scratch_needed W.ExactLent n = 0
scratch_needed W.ExactCopied n = n

-- the place after a string read
abbrev pub string_place : BytesAnswer → ℕ
string_place (Ok (p, m)) = p.0
string_place (Err (p, r)) = p.0
