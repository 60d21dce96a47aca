-- Answers as numbers, for programs of other languages: a number, which is 0 of an answer that is no refusal and else
-- the refusal's number of document 01, and twelve words beside it, zeros where nothing is said. "If an answer is an
-- enum, a definition tells you this paper's number and values for each of its cases." Words 8, 9 and 10 are the three
-- places of an atom (document 02, K1), and word 11 is kept for what is to come.
use Rattle.std.specs.Prelude.{ℕ, ◌%◌, ◌^◌, Bool, List, [], ◌∷◌, ◌++◌, ltb, eqb, length, drop, get_or, Result, Ok, Err, Option, Some, None}
use Rattle.std.specs.Float.{binary32, binary64}
use Rattle.std.specs.Float.Ieee.{to_bits}
use Rattle.std.specs.Float.Ieee as Ieee
use Rattle.types.specs.Answers.{AtomAnswer, Checked, Ran, Skipped, VersionAnswer}
use Rattle.types.specs.Choice.{pick}
use Rattle.types.specs.Counters.{no_places}
use Rattle.types.specs.Kinds.{kind_code}
use Rattle.types.specs.Refusals.{refusal_number, refusal_data, no_room}
use Rattle.types.specs.declared.Places.{Places}
use Rattle.types.specs.declared.Refusal.{Refusal}
use Rattle.types.specs.declared.Integer.{Integer}
use Rattle.types.specs.declared.Integer.TheVariants as I
use Rattle.types.specs.declared.Float.{Float}
use Rattle.types.specs.declared.Float.TheVariants as F
use Rattle.types.specs.declared.Nucleus.{Nucleus}
use Rattle.types.specs.declared.Nucleus.TheVariants as N
use Rattle.types.specs.declared.TallyAnswer.{TallyAnswer}
use Rattle.types.specs.declared.TallyAnswer.TheVariants as TA
use Rattle.words.specs.declared.IntegerWords.{IntegerWords}
use Rattle.words.specs.declared.NucleusWords.{NucleusWords}
use Rattle.types.specs.Values.{value, wide_of}
use Rattle.types.specs.declared.Refusal.TheVariants as R
use Rattle.binary.specs.Formats.{half, single}
use Rattle.binary.specs.Conversions.{widened}

-- how many words an answer has
abbrev pub word_count : ℕ
word_count = 12

-- an answer's number and its words
pub record Said : Type 0 where
  pub number : ℕ
  pub words : List ℕ

-- an answer of that number, by its words
abbrev pub laid : ℕ → ℕ → ℕ → ℕ → ℕ → ℕ → ℕ → ℕ → ℕ → ℕ → ℕ → ℕ → Said
laid n a b c d e f g h first body after =
    record { number = n; words = a ∷ b ∷ c ∷ d ∷ e ∷ f ∷ g ∷ h ∷ first ∷ body ∷ after ∷ 0 ∷ [] }

-- one that has places
abbrev pub says_at : ℕ → ℕ → ℕ → ℕ → ℕ → ℕ → ℕ → ℕ → ℕ → Places → Said
says_at n a b c d e f g h places =
    laid n a b c d e f g h places.first.0 places.body.0 places.after.0

-- one that has none
abbrev pub says : ℕ → ℕ → ℕ → ℕ → ℕ → ℕ → ℕ → ℕ → ℕ → Said
says n a b c d e f g h = says_at n a b c d e f g h no_places

-- a refusal's data, from 0 on; 0 where it has none
abbrev pub datum : ℕ → Refusal → ℕ
datum i r = get_or (refusal_data r) i 0

-- ---- what comes back: "9 NoRoom: output shorter than the whole write", of the words

abbrev pub short : List ℕ → Bool
short old = ltb (length old) word_count

abbrev pub number_of : Said → List ℕ → ℕ
number_of said old = pick (short old) (refusal_number (no_room word_count)) said.number

-- the array of words: those of the answer, and the rest as it was
abbrev pub words_of : Said → List ℕ → List ℕ
words_of said old = pick (short old) old (said.words ++ drop word_count old)

-- another lent buffer, which is left as it was where the words have no room
abbrev pub unless_short : List ℕ → List ℕ → List ℕ → List ℕ
unless_short words old new = pick (short words) old new

-- ---- values

-- the variants of an integer, in their order from 0 on
abbrev pub variant_code : Integer → ℕ
variant_code (I.I8 v) = 0
variant_code (I.I16 v) = 1
variant_code (I.I32 v) = 2
variant_code (I.I64 v) = 3
variant_code (I.I128 v) = 4
variant_code (I.U8 v) = 5
variant_code (I.U16 v) = 6
variant_code (I.U32 v) = 7
variant_code (I.U64 v) = 8
variant_code (I.U128 v) = 9

-- an integer: its variant, and its value's low and high word in two's complement
abbrev pub integer_words : Integer → IntegerWords
integer_words x = record { variant = variant_code x; value = wide_of (value x) }

-- The bits of a float's value at its own width, which are those that are stored but of a binary16, one of argument 1:
-- "Two bytes read as an F32", and "A binary16 NaN reads as sign kept, exponent all ones, quiet bit set, fraction
-- shifted up by 13".
abbrev pub value_bits : ℕ → ℕ → ℕ
value_bits arg stored = pick (eqb arg 1) (widened half single (stored % 2 ^ 16)) stored

-- a float: its case, its width in bytes, its value's bits and its stored bits
abbrev pub float_words : ℕ → Float → ℕ → NucleusWords
float_words arg (F.F32 x) stored = record { case = 3; first = 4; second = value_bits arg stored; third = stored }
float_words arg (F.F64 x) stored = record { case = 3; first = 8; second = stored; third = stored }

-- what an atom holds: its case in the order of the cases from 0 on, and three words
abbrev pub nucleus_words : ℕ → Nucleus → NucleusWords
nucleus_words arg N.None = record { case = 0; first = 0; second = 0; third = 0 }
nucleus_words arg (N.Boolean b) = record { case = 1; first = pick b 1 0; second = 0; third = 0 }
nucleus_words arg (N.Integer x) =
    record { case = 2; first = variant_code x; second = (wide_of (value x)).lo; third = (wide_of (value x)).hi }
nucleus_words arg (N.Float x stored) = float_words arg x stored
nucleus_words arg (N.Bytes m) = record { case = 4; first = m.start; second = m.len; third = pick m.lent 1 0 }
nucleus_words arg N.Unit = record { case = 5; first = 0; second = 0; third = 0 }
nucleus_words arg N.Named = record { case = 6; first = 0; second = 0; third = 0 }
nucleus_words arg N.DynamicMap = record { case = 7; first = 0; second = 0; third = 0 }
nucleus_words arg N.DynamicEnd = record { case = 8; first = 0; second = 0; third = 0 }

-- ---- the answers

-- one atom: place, budget; kind, argument and what it holds; where it starts and where its body does, and the place
-- after it, which is the place of the answer. Or the refusal's data.
abbrev pub atom_said : ℕ → ℕ → ℕ → ℕ → NucleusWords → ℕ → ℕ → Said
atom_said place budget kind arg w first body =
    laid 0 place budget kind arg w.case w.first w.second w.third first body place

unfoldable pub said_atom : AtomAnswer → Said
said_atom (Ok (p, b, x)) =
    atom_said p.0 b.0 (kind_code x.kind) x.arg (nucleus_words x.arg x.nucleus) x.places.first.0
    x.places.body.0
said_atom (Err (p, b, r)) = says (refusal_number r) p.0 b.0 (datum 0 r) (datum 1 r) 0 0 0 0

-- one atom skipped: place, budget; where its body starts, 1 if it is a string, and its places; or the refusal's data
unfoldable pub said_skipped : Skipped → Said
said_skipped (Ok (p, b, places, string)) =
    says_at 0 p.0 b.0 places.body.0 (pick string 1 0) 0 0 0 0 places
said_skipped (Err (p, b, r)) = says (refusal_number r) p.0 b.0 (datum 0 r) (datum 1 r) 0 0 0 0

-- a run: place, budget, atoms, and the places of the last of them; of a refused atom also where it starts, and the
-- refusal's data
unfoldable pub said_ran : Ran → Said
said_ran (Ok run) = says_at 0 run.place.0 run.budget.0 run.atoms 0 0 0 0 0 run.last
said_ran (Err (run, r, start)) =
    says_at (refusal_number r) run.place.0 run.budget.0 run.atoms start.0 (datum 0 r) (datum 1 r) 0 0 run.last

-- a tally: atoms, body bytes, charge, letters; or where the refused atom starts, 0 where the input is refused as a
-- whole, and the refusal's data; either way the places of the last atom that was read
unfoldable pub said_tally : TallyAnswer → Said
said_tally (TA.Done last t) = says_at 0 t.atoms t.body.0 t.charge t.letters 0 0 0 0 last
said_tally (TA.Stopped last r start) = says_at (refusal_number r) start.0 (datum 0 r) (datum 1 r) 0 0 0 0 0 last
said_tally (TA.Refused last r) = says_at (refusal_number r) 0 (datum 0 r) (datum 1 r) 0 0 0 0 0 last

-- a check for shortest form: nothing, or where the refused atom starts, and the refusal's data
unfoldable pub said_checked : Checked → Said
said_checked (Ok tt) = says 0 0 0 0 0 0 0 0 0
said_checked (Err (r, start)) = says (refusal_number r) start.0 (datum 0 r) (datum 1 r) 0 0 0 0 0

-- a signature: place and version, or place
unfoldable pub said_version : VersionAnswer → Said
said_version (Ok (p, version)) = says 0 p.0 version 0 0 0 0 0 0
said_version (Err (p, r)) = says (refusal_number r) p.0 0 0 0 0 0 0 0

-- a refusal alone: its data
abbrev pub said_refused : Refusal → Said
said_refused r = says (refusal_number r) (datum 0 r) (datum 1 r) 0 0 0 0 0 0

-- a write: how many bytes
unfoldable pub said_written : Result ℕ Refusal → Said
said_written (Ok n) = says 0 n 0 0 0 0 0 0 0
said_written (Err r) = said_refused r

-- one word
abbrev pub said_word : ℕ → Said
said_word n = says 0 n 0 0 0 0 0 0 0

-- an integer: its variant, its low and its high word
abbrev pub said_integer : Integer → Said
said_integer x = says 0 (variant_code x) (wide_of (value x)).lo (wide_of (value x)).hi 0 0 0 0 0

-- a cast to an integer
unfoldable pub said_as_integer : Result Integer Refusal → Said
said_as_integer (Ok x) = said_integer x
said_as_integer (Err r) = said_refused r

-- a cast to an integer of a known variant: the low and the high word of its value
unfoldable pub said_cast : Result Integer Refusal → Said
said_cast (Ok x) = says 0 (wide_of (value x)).lo (wide_of (value x)).hi 0 0 0 0 0 0
said_cast (Err r) = said_refused r

-- casts to a float: its bits
unfoldable pub said_as_f32 : Result Ieee.Float Refusal → Said
said_as_f32 (Ok x) = said_word (to_bits binary32 x)
said_as_f32 (Err r) = said_refused r

unfoldable pub said_as_f64 : Result Ieee.Float Refusal → Said
said_as_f64 (Ok x) = said_word (to_bits binary64 x)
said_as_f64 (Err r) = said_refused r

-- "`as_f32` of an F64 needs an equal value": its bits, or refusal 8
unfoldable pub said_narrowed : Option ℕ → Said
said_narrowed (Some q) = said_word q
said_narrowed None = said_refused R.ImpreciseCastWouldLoseData
