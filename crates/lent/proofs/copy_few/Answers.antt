use Rattle.lent.proofs.Copies.{few_ends}
use Rattle.lent.proofs.copy_few.Goals as goal

pub returns-then-size-lt1 : goal.returns-then-size-lt1
returns-then-size-lt1 c = search few_ends

pub returns : goal.returns
returns c = search few_ends
