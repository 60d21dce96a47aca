-- `test_bench_loops::loop_read` is safe and ends: each atom takes the place on, and there are no more atoms than bytes.
use Prim.Native.Nat.{◌≤◌, ◌-◌}
use mathlib.Core.Path.{◌≡◌}
use lib.ListN.{length}
use Rattle.test_bench_loops.proofs.loop_read.Given as goal

abbrev pub invariant-loop-at : goal.invariant-loop-at
invariant-loop-at l =
    (l.atoms ≤ l.at) × (length l.scratch ≡ length l.initial.scratch) × (length l.out ≡ length l.initial.out)

abbrev pub decreases-loop-at : goal.decreases-loop-at
decreases-loop-at l = length l.source - l.at
