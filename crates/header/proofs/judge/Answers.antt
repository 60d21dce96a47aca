-- `header::judge` meets its contract: the mask is what is left of the word exactly if every bit of it is set.
use Rattle.header.proofs.Ends.{judge_ends}
use Rattle.header.proofs.judge.Goals as goal

pub returns-then-header-eq1349481472 : goal.returns-then-header-eq1349481472
returns-then-header-eq1349481472 c = search judge_ends

pub returns : goal.returns
returns c = search judge_ends
