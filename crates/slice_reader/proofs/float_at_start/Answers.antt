-- `slice_reader::float_at_start` meets its contract: what `float::read_from` ensures at the place 0 is the definition.
use borrow.Author.Rules.{rules}
use Rattle.slice_reader.specs.Given.{float_given}
use Rattle.slice_reader.proofs.float_at_start.Goals as goal

pub returns : goal.returns
unfolding float_given
returns c = search rules
