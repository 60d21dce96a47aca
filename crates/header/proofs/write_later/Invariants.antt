-- `header::write_later` meets its contract. The invariant: the groups written, and those that are left of the number.
use Rattle.header.proofs.Groups.{Writing}
use Rattle.header.proofs.write_later.Given as goal

abbrev pub invariant-loop-arg : goal.invariant-loop-arg
invariant-loop-arg l = Writing l.initial.out l.rest l.out l.i l.arg

abbrev pub decreases-loop-arg : goal.decreases-loop-arg
decreases-loop-arg l = l.arg
