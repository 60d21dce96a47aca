-- `dictionary::short_body` meets its contract.
use Rattle.dictionary.proofs.Shorts.{short_body_ends}
use Rattle.dictionary.proofs.short_body.Goals as goal

pub returns-then-size-from : goal.returns-then-size-from
returns-then-size-from c = search short_body_ends

pub returns-in_default : goal.returns-in_default
returns-in_default c = search short_body_ends

pub returns : goal.returns
returns c = search short_body_ends
