-- `letters::letters_by_pairs` meets its contract: what was counted, with what is left, is the whole.
use Rattle.letters.proofs.Counting.{Counting}
use Rattle.letters.proofs.letters_by_pairs.Given as goal

abbrev pub invariant-loop-i : goal.invariant-loop-i
invariant-loop-i l = Counting l.string l.from l.to l.letters 0 l.i
