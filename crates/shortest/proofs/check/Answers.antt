-- `shortest::check` meets its contract: a turn of the loop is a turn of the definition. Each atom takes a byte at
-- least, so that the bytes left are the measure.
use Rattle.shortest.proofs.Checking.{check_laws}
use Rattle.shortest.proofs.check.Goals as goal

pub loop-at-preserved-in-Some : goal.loop-at-preserved-in-Some
loop-at-preserved-in-Some c = search check_laws

pub shortest_atom-requires : goal.shortest_atom-requires
shortest_atom-requires c = search check_laws

pub loop-at-smaller : goal.loop-at-smaller
loop-at-smaller c = search check_laws

pub loop-at-preserved : goal.loop-at-preserved
loop-at-preserved c = search check_laws

pub returns-then-not-shortest_atom : goal.returns-then-not-shortest_atom
returns-then-not-shortest_atom c = search check_laws

pub returns-in-Err : goal.returns-in-Err
returns-in-Err c = search check_laws

pub returns : goal.returns
returns c = search check_laws
