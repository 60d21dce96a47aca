-- `slice_reader::integer_at_start` meets its contract: what `integer::read_from` ensures at the place 0 is the
-- definition.
use borrow.Author.Rules.{rules}
use Rattle.slice_reader.specs.Given.{integer_given}
use Rattle.slice_reader.proofs.integer_at_start.Goals as goal

pub returns : goal.returns
unfolding integer_given
returns c = search rules
