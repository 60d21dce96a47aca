use Rattle.lent.proofs.Ends.{written_ends}
use Rattle.lent.proofs.put_one.Goals as goal

pub returns-clause-out_after : goal.returns-clause-out_after
returns-clause-out_after c = search written_ends
