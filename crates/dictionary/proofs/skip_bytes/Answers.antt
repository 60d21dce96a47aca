-- `dictionary::skip_bytes` meets its contract: the charge, then the end.
use Rattle.dictionary.proofs.Ends.{body_ends}
use Rattle.dictionary.proofs.skip_bytes.Goals as goal

pub returns-in_default : goal.returns-in_default
returns-in_default c = search body_ends

pub returns-then-room-count : goal.returns-then-room-count
returns-then-room-count c = search body_ends

pub returns : goal.returns
returns c = search body_ends
