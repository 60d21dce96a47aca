-- The table of document 01, "Refusals by number", of the entries beside the atom: of each, the rows that it can answer
-- by, named after their numbers, and `taken` for what is no refusal. Of each row: when it is given, its number and
-- data, the place after it, and the lent buffer; "Except where said, a refusal returns its number and data only, and
-- buffers keep their bytes."
use Rattle.std.specs.Prelude.{ℕ, ◌+◌, ◌-◌, ◌%◌, ◌≤◌, ◌<◌, ◌≡◌, ◌⊎◌, Bool, true, false, List, [], ◌∷◌, ◌++◌, pos, length, take, drop}
use Rattle.types.specs.Ways.{exact}
use Rattle.types.specs.Counters.{place_in, no_places}
use Rattle.types.specs.Kinds.{kind_code, kind_from, special_from}
use Rattle.types.specs.Forms.{allowed_count, allowed_float}
use Rattle.types.specs.declared.Way.{Way}
use Rattle.types.specs.declared.Kind.{Kind}
use Rattle.types.specs.declared.Kind.TheVariants as K
use Rattle.types.specs.declared.Budget.{Budget}
use Rattle.lent.specs.Lent.{written_answer, written_content}
use Rattle.header.specs.Header.{header_read, header_length, header_kind, header_argument}
use Rattle.header.specs.Signature.{version_read, every_bit, signature, big_endian}
use Rattle.reader.specs.Strings.{start_of, string_answer, string_scratch, string_mark, scratch_needed}
use Rattle.reader.specs.Parts.{marked_bytes}
use Rattle.reader.specs.Raw.{raw_answer, raw_buffer, raw_exactly, raw_exactly_buffer}
use Rattle.little.specs.Le.{number_at}
use Rattle.integer.specs.Integers.{integer_kind, integer_read}
use Rattle.float.specs.Floats.{float_kind, float_read}
use Rattle.writers.specs.Bytes.{held_answer, held_content}
use Rattle.atom.specs.Charges.{budget_after}
use Rattle.dictionary.specs.Runs.{tally_all, most_bytes}
use Rattle.report.specs.Reports.{report_of, most_file_bytes}
use Rattle.promises.specs.Told.{told, mark_told, told_kind, told_special, told_header, told_version, told_integer}
use Rattle.promises.specs.Told.{told_float, told_bytes, told_raw, told_budget, told_written, told_tally, told_report}
use Rattle.promises.specs.Told.{places_told}
use Rattle.promises.specs.Held.{integer_held, float_held, copied}

-- the bytes up to a place are in the source, or filled with zeros; or exact reading ends
abbrev pub There : Way → List ℕ → ℕ → Type 0
There way s end = (end ≤ length s) ⊎ (exact way ≡ false)

abbrev pub Cut : Way → List ℕ → ℕ → Type 0
Cut way s end = (length s < end) × (exact way ≡ true)

-- the bytes from a place on, and where a header ends that starts there
abbrev pub onward : List ℕ → ℕ → List ℕ
onward s place = drop (start_of s place) s

abbrev pub header_end : List ℕ → ℕ → ℕ
header_end s place = start_of s place + header_length (onward s place)

-- `Kind::from_u8`
pub record KindRows (code : ℕ) : Type 0 where
  pub taken : code < 8 → told_kind (kind_from code) ≡ told 0 (pos code ∷ [])
  pub two : 8 ≤ code → told_kind (kind_from code) ≡ told 2 (pos code ∷ [])

pub record SpecialRows (arg : ℕ) : Type 0 where
  pub taken : arg < 7 → told_special (special_from arg) ≡ told 0 (pos arg ∷ [])
  pub three : 7 ≤ arg → told_special (special_from arg) ≡ told 3 (pos arg ∷ [])

-- an atom's header
pub record HeaderRows (way : Way) (s : List ℕ) (place : ℕ) : Type 0 where
  pub taken :
      There way s (header_end s place) →
      told_header (header_read way s place)
      ≡ told 0
      (pos (place_in (length s) (header_end s place)) ∷ pos (kind_code (header_kind (onward s place)))
      ∷ pos (header_argument (onward s place)) ∷ [])
  pub four :
      Cut way s (header_end s place) →
      told_header (header_read way s place) ≡ told 4 (pos (length s) ∷ [])

-- the signature: "1: place past 4 bytes or at end"
pub record SignatureRows (way : Way) (s : List ℕ) (place : ℕ) : Type 0 where
  pub taken :
      There way s (start_of s place + 4) →
      every_bit 32 signature (big_endian (onward s place)) ≡ true →
      told_version (version_read way s place)
      ≡ told 0 (pos (place_in (length s) (start_of s place + 4)) ∷ pos (big_endian (onward s place) % 256) ∷ [])
  pub one :
      There way s (start_of s place + 4) →
      every_bit 32 signature (big_endian (onward s place)) ≡ false →
      told_version (version_read way s place) ≡ told 1 (pos (place_in (length s) (start_of s place + 4)) ∷ [])
  pub four :
      Cut way s (start_of s place + 4) →
      told_version (version_read way s place) ≡ told 4 (pos (length s) ∷ [])

-- a charge: "5: charge exceeds budget"
pub record BudgetRows (budget : Budget) (charge : ℕ) : Type 0 where
  pub taken : charge ≤ budget.0 →
      told_budget (budget_after budget charge) ≡ told 0 (pos (budget.0 - charge) ∷ [])
  pub five : budget.0 < charge → told_budget (budget_after budget charge) ≡ told 5 []

-- an integer asked for directly: 7 "before the count is judged: unchanged"; "its refusal 6 leaves the place"
pub record IntegerRows (way : Way) (s : List ℕ) (place : ℕ) (kind : Kind) (count : ℕ) : Type 0 where
  pub seven :
      integer_kind kind ≡ false →
      told_integer (integer_read way s place kind count)
      ≡ told 7 (pos (start_of s place) ∷ pos (kind_code kind) ∷ pos (kind_code K.Int) ∷ [])
  pub six :
      integer_kind kind ≡ true →
      allowed_count count ≡ false →
      told_integer (integer_read way s place kind count)
      ≡ told 6 (pos (start_of s place) ∷ pos (kind_code kind) ∷ pos count ∷ [])
  pub four :
      integer_kind kind ≡ true →
      allowed_count count ≡ true →
      Cut way s (start_of s place + count) →
      told_integer (integer_read way s place kind count) ≡ told 4 (pos (length s) ∷ [])
  pub taken :
      integer_kind kind ≡ true →
      allowed_count count ≡ true →
      There way s (start_of s place + count) →
      told_integer (integer_read way s place kind count)
      ≡ told 0
      (pos (place_in (length s) (start_of s place + count))
      ∷ integer_held kind count (number_at count s (start_of s place)))

-- a float likewise
pub record FloatRows (way : Way) (s : List ℕ) (place : ℕ) (kind : Kind) (count : ℕ) : Type 0 where
  pub seven :
      float_kind kind ≡ false →
      told_float (float_read way s place kind count)
      ≡ told 7 (pos (start_of s place) ∷ pos (kind_code kind) ∷ pos (kind_code K.Float) ∷ [])
  pub six :
      float_kind kind ≡ true →
      allowed_float count ≡ false →
      told_float (float_read way s place kind count)
      ≡ told 6 (pos (start_of s place) ∷ pos (kind_code K.Float) ∷ pos count ∷ [])
  pub four :
      float_kind kind ≡ true →
      allowed_float count ≡ true →
      Cut way s (start_of s place + count) →
      told_float (float_read way s place kind count) ≡ told 4 (pos (length s) ∷ [])
  pub taken :
      float_kind kind ≡ true →
      allowed_float count ≡ true →
      There way s (start_of s place + count) →
      told_float (float_read way s place kind count)
      ≡ told 0
      (pos (place_in (length s) (start_of s place + count)) ∷ pos (number_at count s (start_of s place))
      ∷ float_held count (number_at count s (start_of s place)))

-- a string of n bytes: "then end of input, then scratch room"; its mark names its bytes, in the source or in the
-- scratch
pub record StringRows (way : Way) (s : List ℕ) (place n : ℕ) (scratch : List ℕ) : Type 0 where
  pub four :
      length s < start_of s place + n →
      (told_bytes (string_answer way s place n scratch) ≡ told 4 (pos (length s) ∷ []))
      × (string_scratch way s place n scratch ≡ scratch)
  pub nine :
      start_of s place + n ≤ length s →
      length scratch < scratch_needed way n →
      (told_bytes (string_answer way s place n scratch) ≡ told 9 (pos (start_of s place) ∷ []))
      × (string_scratch way s place n scratch ≡ scratch)
  pub taken :
      start_of s place + n ≤ length s →
      scratch_needed way n ≤ length scratch →
      (told_bytes (string_answer way s place n scratch)
      ≡ told 0 (pos (start_of s place + n) ∷ mark_told (string_mark way (start_of s place) n)))
      × (string_scratch way s place n scratch ≡ copied s (start_of s place) (scratch_needed way n) scratch)
  pub delivered :
      start_of s place + n ≤ length s →
      scratch_needed way n ≤ length scratch →
      marked_bytes (string_mark way (start_of s place) n) s (string_scratch way s place n scratch)
      ≡ take n (drop (start_of s place) s)

-- how many bytes a raw read takes: as many as the buffer holds, or as are left
abbrev pub raw_count : List ℕ → ℕ → List ℕ → ℕ
raw_count s place buffer = place_in (length s) (start_of s place + length buffer) - start_of s place

-- a raw read of as many bytes as the buffer has; and one of as many as there are, which nothing refuses
pub record RawRows (way : Way) (s : List ℕ) (place : ℕ) (buffer : List ℕ) : Type 0 where
  pub four :
      Cut way s (start_of s place + length buffer) →
      (told_raw (raw_exactly way s place buffer) ≡ told 4 (pos (length s) ∷ []))
      × (raw_exactly_buffer way s place buffer ≡ buffer)
  pub taken :
      There way s (start_of s place + length buffer) →
      (told_raw (raw_exactly way s place buffer)
      ≡ told 0
      (pos (place_in (length s) (start_of s place + length buffer)) ∷ pos (raw_count s place buffer) ∷ []))
      × (raw_exactly_buffer way s place buffer ≡ copied s (start_of s place) (raw_count s place buffer) buffer)
  pub any :
      (told_raw (raw_answer s place buffer)
      ≡ told 0
      (pos (place_in (length s) (start_of s place + length buffer)) ∷ pos (raw_count s place buffer) ∷ []))
      × (raw_buffer s place buffer ≡ copied s (start_of s place) (raw_count s place buffer) buffer)

-- a writer of those bytes into a buffer: "9: output shorter than the whole write"
pub record WriterRows (bytes old : List ℕ) : Type 0 where
  pub nine :
      length old < length bytes →
      (told_written (written_answer bytes old) ≡ told 9 []) × (written_content bytes old ≡ old)
  pub taken :
      length bytes ≤ length old →
      (told_written (written_answer bytes old) ≡ told 0 (pos (length bytes) ∷ []))
      × (written_content bytes old ≡ bytes ++ drop (length bytes) old)

-- a 24 or 48 bit writer: "Refusal 8 comes before 9."
pub record HeldRows (held : Bool) (bytes old : List ℕ) : Type 0 where
  pub eight :
      held ≡ false →
      (told_written (held_answer held bytes old) ≡ told 8 []) × (held_content held bytes old ≡ old)
  pub written :
      held ≡ true →
      (held_answer held bytes old ≡ written_answer bytes old) ×
      (held_content held bytes old ≡ written_content bytes old)

-- "10 TooLong: tally input over 16,777,216 bytes; its program over 65,536"; no atom was read, so that the places of the
-- last are "all 0"
pub record LengthRows (s : List ℕ) : Type 0 where
  pub tally_ten : most_bytes < length s → told_tally (tally_all s) ≡ told 10 (places_told no_places [])
  pub program_ten : most_file_bytes < length s → told_report (report_of s) ≡ told 10 (pos 0 ∷ [])
