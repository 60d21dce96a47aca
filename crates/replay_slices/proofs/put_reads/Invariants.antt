-- `replay_slices::put_reads` is safe and ends. The loop carries the slice that the reader holds; the invariant: the
-- buffer keeps its length. The measure is what is left of the reads.
use mathlib.Core.Path.{◌≡◌}
use lib.ListN.{length}
use borrow.Author.Rules.{rules}
use Rattle.replay_slices.proofs.put_reads.Given as goal

abbrev pub invariant-loop-more : goal.invariant-loop-more
invariant-loop-more l = length l.out ≡ length l.initial.out

abbrev pub decreases-loop-more : goal.decreases-loop-more
decreases-loop-more l = l.more
