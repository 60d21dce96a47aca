-- `slice_reader::string_at_start` meets its contract: what `reader::lend_bytes` ensures at the place 0 is the
-- definition.
use borrow.Author.Rules.{rules}
use Rattle.slice_reader.specs.Given.{string_given}
use Rattle.slice_reader.proofs.string_at_start.Goals as goal

pub returns : goal.returns
unfolding string_given
returns c = search rules
