-- What a reader that is held over two reads says, by what each read gives of the slice still to be read.
use Rattle.std.specs.Prelude.{ℕ, List, eqb, length}
use Rattle.types.specs.declared.Kind.{Kind}
use Rattle.slice_reader.specs.Left.{left_bytes}
use Rattle.slice_reader.specs.Given.{integer_given, integer_place}
use Rattle.test_slice_reader.specs.declared.Held.{Held}

-- what an integer read leaves of a slice
abbrev pub left_by : List ℕ → Kind → ℕ → List ℕ
left_by s kind count = left_bytes s (integer_place (integer_given s kind count))

unfoldable pub held_over : List ℕ → Kind → ℕ → Held
held_over s kind count = record {
  before = length s;
  first = integer_given s kind count;
  second = integer_given (left_by s kind count) kind count;
  after = length (left_by (left_by s kind count) kind count);
  empty = eqb (length (left_by (left_by s kind count) kind count)) 0;
}
