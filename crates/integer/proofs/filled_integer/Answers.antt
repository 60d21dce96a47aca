-- `integer::filled_integer` meets its contract: the block has the bytes that stand at the place, filled up with zeros.
use Rattle.integer.proofs.Ends.{block_ends}
use Rattle.integer.proofs.filled_integer.Goals as goal

pub integer_at-requires : goal.integer_at-requires
integer_at-requires c = search block_ends

pub returns : goal.returns
returns c = search block_ends
