-- `dictionary::skip_body` meets its contract, kind by kind.
use Rattle.dictionary.proofs.Ends.{kind_ends}
use Rattle.dictionary.proofs.skip_body.Goals as goal

pub returns-in-Sequence : goal.returns-in-Sequence
returns-in-Sequence c = search kind_ends

pub returns-in-Ok : goal.returns-in-Ok
returns-in-Ok c = search kind_ends

pub returns-in-Err : goal.returns-in-Err
returns-in-Err c = search kind_ends
