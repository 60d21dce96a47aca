-- `replay_wire::fields::read_word` is safe and ends. The invariant: the place is not before the start; the measure is
-- what is left of the text.
use Prim.Native.Nat.{◌-◌, ◌≤◌}
use lib.ListN.{length}
use Rattle.replay_wire.proofs.fields.read_word.Given as goal

abbrev pub invariant-loop-value : goal.invariant-loop-value
invariant-loop-value l = l.start ≤ l.at

abbrev pub decreases-loop-value : goal.decreases-loop-value
decreases-loop-value l = length l.text - l.at
