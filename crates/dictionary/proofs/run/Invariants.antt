-- `dictionary::run` meets its contract: a turn of the loop is a turn of the definition. Each atom takes a byte at
-- least, so that the bytes left are the measure.
use Prim.Native.Nat.{◌-◌}
use lib.ListN.{length}
use Rattle.dictionary.specs.Steps.{last_of}
use Rattle.dictionary.proofs.Running.{Running}
use Rattle.dictionary.proofs.run.Given as goal

abbrev pub invariant-loop-at : goal.invariant-loop-at
invariant-loop-at l =
    Running l.source l.initial.left l.atoms l.at.0 l.left.0 (last_of l.source l.first l.at)

abbrev pub decreases-loop-at : goal.decreases-loop-at
decreases-loop-at l = length l.source - l.at.0
