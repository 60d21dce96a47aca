-- `test_room::ask` is safe and ends. The invariant: the buffers keep their lengths. The measure is what is left of
-- the text.
use Rattle.std.specs.Prelude.{◌≡◌, ◌-◌, length}
use Rattle.test_room.proofs.ask.Given as goal

abbrev pub invariant-loop-at : goal.invariant-loop-at
invariant-loop-at g l =
    (length l.buffer ≡ length l.initial.buffer) × (length l.other ≡ length l.initial.other)
    × (length l.out ≡ length l.initial.out)

abbrev pub decreases-loop-at : goal.decreases-loop-at
decreases-loop-at g l = length l.text - l.at
