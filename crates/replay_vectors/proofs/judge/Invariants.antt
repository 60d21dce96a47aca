-- `replay_vectors::judge` meets its contract. The invariant: each line so far has one verdict, and took a byte at least; the
-- buffers keep their lengths. The measure is what is left of the text.
use Prim.Native.Nat.{◌-◌, ◌≤◌}
use mathlib.Core.Path.{◌≡◌}
use native.Mathlib.Omega.{arith}
use lib.ListN.{length}
use Rattle.replay_vectors.specs.Counted.{Counted}
use borrow.Author.Rules.{rules}
use Rattle.replay_vectors.proofs.judge.Given as goal

abbrev pub invariant-loop-at : goal.invariant-loop-at
invariant-loop-at l =
    (l.tally.lines ≤ l.at) × Counted l.tally × (length l.bytes ≡ length l.initial.bytes)
    × (length l.scratch ≡ length l.initial.scratch) × (length l.out ≡ length l.initial.out)

abbrev pub decreases-loop-at : goal.decreases-loop-at
decreases-loop-at l = length l.text - l.at
