-- `replay_vectors::report_topics` is safe and ends. The invariant: the buffers keep their lengths. The measure is what is left
-- of the text, of which each topic takes its heading at least.
use Prim.Native.Nat.{◌-◌}
use mathlib.Core.Path.{◌≡◌}
use native.Mathlib.Omega.{arith}
use lib.ListN.{length}
use borrow.Author.Rules.{rules}
use Rattle.replay_vectors.proofs.report_topics.Given as goal

abbrev pub invariant-loop-at : goal.invariant-loop-at
invariant-loop-at g l =
    (length l.bytes ≡ length l.initial.bytes) × (length l.scratch ≡ length l.initial.scratch) × (length l.out ≡ length l.initial.out)

abbrev pub decreases-loop-at : goal.decreases-loop-at
decreases-loop-at g l = length l.text - l.at
