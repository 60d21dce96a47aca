-- `test_bench_loops::write_each` is safe and ends: the place stays within the buffer, which keeps its length.
use Rattle.std.specs.Prelude.{◌≡◌, ◌≤◌, length}
use Rattle.test_bench_loops.proofs.write_each.Given as goal

abbrev pub invariant-loop-i : goal.invariant-loop-i
invariant-loop-i g l = (l.at ≤ length l.out) × (length l.out ≡ length l.initial.out)
