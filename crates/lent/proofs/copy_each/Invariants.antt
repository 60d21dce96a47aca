-- `lent::copy_each` meets its contract. The invariant: the first i bytes are the source's, and the rest as they were.
use Rattle.lent.proofs.Ends.{Copying}
use Rattle.lent.proofs.copy_each.Given as goal

abbrev pub invariant-loop-i : goal.invariant-loop-i
invariant-loop-i l = Copying l.initial.out l.source l.out l.i
