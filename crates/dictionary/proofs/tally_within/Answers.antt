-- `dictionary::tally_within` meets its contract: a turn of the loop is a turn of the definition. The bytes left are the
-- measure.
use Rattle.dictionary.proofs.Steps.{step_starts, step_inside}
use Rattle.dictionary.proofs.Tallying.{tally_laws}
use Rattle.dictionary.proofs.tally_within.Goals as goal

pub letters_of_short-letters-requires : goal.letters_of_short-letters-requires
letters_of_short-letters-requires c = search tally_laws

pub overflow_add-letters : goal.overflow_add-letters
overflow_add-letters c = search tally_laws

pub overflow_add-charge : goal.overflow_add-charge
overflow_add-charge c = search tally_laws

pub loop-at-smaller-in-Some : goal.loop-at-smaller-in-Some
loop-at-smaller-in-Some c = search tally_laws

pub loop-at-preserved-in-Some : goal.loop-at-preserved-in-Some
loop-at-preserved-in-Some c = search tally_laws

pub letters_of-letters-requires : goal.letters_of-letters-requires
letters_of-letters-requires c = (search step_starts, search step_inside)

pub overflow_add-letters-in-Ok : goal.overflow_add-letters-in-Ok
overflow_add-letters-in-Ok c = search tally_laws

pub overflow_add-charge-in-Ok : goal.overflow_add-charge-in-Ok
overflow_add-charge-in-Ok c = search tally_laws

pub overflow_sub-headers : goal.overflow_sub-headers
overflow_sub-headers c = search tally_laws

pub overflow_add-headers-in-Ok : goal.overflow_add-headers-in-Ok
overflow_add-headers-in-Ok c = search tally_laws

pub overflow_add-headers-in-Ok-2 : goal.overflow_add-headers-in-Ok-2
overflow_add-headers-in-Ok-2 c = search tally_laws

pub loop-at-smaller : goal.loop-at-smaller
loop-at-smaller c = search tally_laws

pub loop-at-preserved : goal.loop-at-preserved
loop-at-preserved c = search tally_laws

pub returns-in-Err : goal.returns-in-Err
returns-in-Err c = search tally_laws

pub returns : goal.returns
returns c = search tally_laws
