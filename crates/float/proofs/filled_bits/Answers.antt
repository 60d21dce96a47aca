-- `float::filled_bits` meets its contract: the block has the bytes that stand at the place, filled up with zeros.
use Rattle.float.proofs.Ends.{block_ends}
use Rattle.float.proofs.filled_bits.Goals as goal

pub stored_bits-requires : goal.stored_bits-requires
stored_bits-requires c = search block_ends

pub returns : goal.returns
returns c = search block_ends
