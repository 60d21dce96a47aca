-- `header::later_length` meets its contract. The invariant: the groups counted and those left are the number's.
use Rattle.header.proofs.Groups.{count_laws}
use Rattle.header.proofs.later_length.Goals as goal

pub loop-arg-preserved : goal.loop-arg-preserved
loop-arg-preserved c = search count_laws

pub returns : goal.returns
returns c = search count_laws
