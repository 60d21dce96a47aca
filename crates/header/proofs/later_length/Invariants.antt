-- `header::later_length` meets its contract. The invariant: the groups counted and those left are the number's.
use Rattle.header.proofs.Groups.{Counting}
use Rattle.header.proofs.later_length.Given as goal

abbrev pub invariant-loop-arg : goal.invariant-loop-arg
invariant-loop-arg l = Counting l.rest l.count l.arg

abbrev pub decreases-loop-arg : goal.decreases-loop-arg
decreases-loop-arg l = l.arg
