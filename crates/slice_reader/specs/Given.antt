-- What stands at the start of a slice, and the place after it. Document 01, "Two ways of reading": "Filled reading is
-- `SliceReader`: a header byte or number byte past the end reads as zero and the place stops at the end."
use Rattle.std.specs.Prelude.{ℕ, List, [], Ok, Err}
use Rattle.types.specs.Answers.{AtomAnswer, BytesAnswer, FloatAnswer, IntegerAnswer}
use Rattle.types.specs.declared.Way.TheVariants as W
use Rattle.types.specs.declared.Kind.{Kind}
use Rattle.types.specs.declared.Budget.{Budget}
use Rattle.integer.specs.Integers.{integer_read}
use Rattle.float.specs.Floats.{float_read}
use Rattle.reader.specs.Strings as strings
use Rattle.atom.specs.Atoms.{atom_read}

-- "the number reads": refusals 7 and 6 leave the place, which is the slice's first byte
unfoldable pub integer_given : List ℕ → Kind → ℕ → IntegerAnswer
integer_given s kind count = integer_read W.Filled s 0 kind count

unfoldable pub float_given : List ℕ → Kind → ℕ → FloatAnswer
float_given s kind count = float_read W.Filled s 0 kind count

-- "Only a string can run out." "Filled reading delivers it lent only."
unfoldable pub string_given : List ℕ → ℕ → BytesAnswer
string_given s n = strings.lent_string s 0 n

unfoldable pub atom_given : List ℕ → Budget → AtomAnswer
atom_given s budget = atom_read W.Filled s 0 budget []

-- the place after each, whether refused or not
abbrev pub integer_place : IntegerAnswer → ℕ
integer_place (Ok (p, x)) = p.0
integer_place (Err (p, r)) = p.0

abbrev pub float_place : FloatAnswer → ℕ
float_place (Ok (p, x, bits)) = p.0
float_place (Err (p, r)) = p.0

abbrev pub string_place : BytesAnswer → ℕ
string_place = strings.string_place

abbrev pub atom_place : AtomAnswer → ℕ
atom_place (Ok (p, budget, x)) = p.0
atom_place (Err (p, budget, r)) = p.0
