-- `little::filled` meets its contract: a turn of the loop puts one byte more into the block.
use Rattle.little.proofs.Zeros.{Filling}
use Rattle.little.proofs.filled.Given as goal

abbrev pub invariant-loop-i : goal.invariant-loop-i
invariant-loop-i l = Filling 16 l.s l.at l.block l.i
