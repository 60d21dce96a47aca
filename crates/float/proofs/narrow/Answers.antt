-- `float::narrow` meets its contract: the pattern narrows exactly if there is an equal value.
use Rattle.float.proofs.Ends.{value_ends}
use Rattle.float.proofs.narrow.Goals as goal

pub returns-in_default : goal.returns-in_default
returns-in_default c = search value_ends

pub returns : goal.returns
returns c = search value_ends
