-- `letters::count_letters` meets its contract: what was counted, with what is left, is the whole.
use Prim.Native.Nat.{◌-◌}
use lib.ListN.{length}
use Rattle.letters.proofs.Counting.{Counting}
use Rattle.letters.proofs.count_letters.Given as goal

abbrev pub invariant-loop-i : goal.invariant-loop-i
invariant-loop-i l = Counting l.string 0 (length l.string) l.count 0 l.i

abbrev pub decreases-loop-i : goal.decreases-loop-i
decreases-loop-i l = length l.string - l.i
