-- `dictionary::tally_within` meets its contract: a turn of the loop is a turn of the definition. The bytes left are the
-- measure.
use Prim.Native.Nat.{◌-◌}
use lib.ListN.{length}
use Rattle.dictionary.specs.Steps.{last_of}
use Rattle.dictionary.proofs.Tallying.{Tallying}
use Rattle.dictionary.proofs.tally_within.Given as goal

abbrev pub invariant-loop-at : goal.invariant-loop-at
invariant-loop-at l =
    Tallying l.source l.headers l.charge l.letters l.at.0 (last_of l.source l.first l.at)

abbrev pub decreases-loop-at : goal.decreases-loop-at
decreases-loop-at l =
    length l.source - l.at.0
