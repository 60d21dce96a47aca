-- `header::read_later` meets its contract. The invariant: nothing of the argument and of the place is lost, `Reading`.
use Rattle.header.proofs.Later.{reading_laws}
use Rattle.header.proofs.read_later.Goals as goal

pub returns-then-data-byte : goal.returns-then-data-byte
returns-then-data-byte c = search reading_laws

pub loop-place-preserved : goal.loop-place-preserved
loop-place-preserved c = search reading_laws

pub returns-then-end-at-eq9 : goal.returns-then-end-at-eq9
returns-then-end-at-eq9 c = search reading_laws

pub returns-then-is_exact : goal.returns-then-is_exact
returns-then-is_exact c = search reading_laws

pub returns : goal.returns
returns c = search reading_laws
