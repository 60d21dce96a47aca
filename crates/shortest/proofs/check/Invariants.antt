-- `shortest::check` meets its contract: a turn of the loop is a turn of the definition. Each atom takes a byte at
-- least, so that the bytes left are the measure.
use Prim.Native.Nat.{◌-◌}
use lib.ListN.{length}
use Rattle.shortest.proofs.Checking.{Checking}
use Rattle.shortest.proofs.check.Given as goal

abbrev pub invariant-loop-at : goal.invariant-loop-at
invariant-loop-at l = Checking l.source l.at.0

abbrev pub decreases-loop-at : goal.decreases-loop-at
decreases-loop-at l = length l.source - l.at.0
