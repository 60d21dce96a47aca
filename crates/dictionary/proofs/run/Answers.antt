-- `dictionary::run` meets its contract: a turn of the loop is a turn of the definition. Each atom takes a byte at
-- least, so that the bytes left are the measure.
use Rattle.dictionary.proofs.Running.{run_laws}
use Rattle.dictionary.proofs.run.Goals as goal

pub loop-at-smaller-in-Some : goal.loop-at-smaller-in-Some
loop-at-smaller-in-Some c = search run_laws

pub loop-at-preserved-in-Some : goal.loop-at-preserved-in-Some
loop-at-preserved-in-Some c = search run_laws

pub loop-at-smaller : goal.loop-at-smaller
loop-at-smaller c = search run_laws

pub loop-at-preserved : goal.loop-at-preserved
loop-at-preserved c = search run_laws

pub returns-in-Err : goal.returns-in-Err
returns-in-Err c = search run_laws

pub returns : goal.returns
returns c = search run_laws
