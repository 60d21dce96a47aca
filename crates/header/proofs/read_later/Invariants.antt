-- `header::read_later` meets its contract. The invariant: nothing of the argument and of the place is lost, `Reading`.
use Prim.Native.Nat.{◌-◌}
use Rattle.header.proofs.Later.{Reading}
use Rattle.header.proofs.read_later.Given as goal

abbrev pub invariant-loop-place : goal.invariant-loop-place
invariant-loop-place l = Reading l.source l.at l.low l.end l.place l.arg l.offset

abbrev pub decreases-loop-place : goal.decreases-loop-place
decreases-loop-place l = l.end - l.place
