-- `test_slice_reader::held_over` meets its contract: each read answers of what the one before it leaves.
use Rattle.test_slice_reader.specs.Held.{held_over}
use Rattle.test_slice_reader.proofs.held_over.Goals as goal

pub returns : goal.returns
unfolding held_over
returns c =
    let one = c.read_integer-one.ensures in
    let two = c.read_integer-two.ensures in
    simp (
      c.len-before.ensures,
      c.len-after.ensures,
      c.is_empty-empty.ensures,
      two.1.0,
      two.0,
      one.1.0,
      one.0,
      c.from-reader.ensures,
    )
