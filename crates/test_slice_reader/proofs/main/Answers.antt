-- `test_slice_reader::main` checks what a reader of the bytes `ab` says.
use Rattle.test_slice_reader.proofs.Ends.{check_ends}
use Rattle.test_slice_reader.proofs.main.Goals as goal

pub expect-requires : goal.expect-requires
expect-requires c = search check_ends

pub expect-requires-2 : goal.expect-requires-2
expect-requires-2 c = search check_ends

pub expect-requires-3 : goal.expect-requires-3
expect-requires-3 c = search check_ends
