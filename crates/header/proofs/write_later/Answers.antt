-- `header::write_later` meets its contract. The invariant: the groups written, and those that are left of the number.
use Rattle.header.proofs.Groups.{write_laws}
use Rattle.header.proofs.write_later.Goals as goal

pub bounds-out-i : goal.bounds-out-i
bounds-out-i c = search write_laws

pub loop-arg-preserved : goal.loop-arg-preserved
loop-arg-preserved c = search write_laws

pub bounds-out-i-2 : goal.bounds-out-i-2
bounds-out-i-2 c = search write_laws

pub returns-clause-value : goal.returns-clause-value
returns-clause-value c = search write_laws

pub returns-clause-out_after : goal.returns-clause-out_after
returns-clause-out_after c = search write_laws
