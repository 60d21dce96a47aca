-- `dictionary::skip_atom` meets its contract: what the step told, and the two places that it was not told.
use Rattle.dictionary.proofs.Ends.{skip_ends}
use Rattle.dictionary.proofs.skip_atom.Goals as goal

pub returns-in_err-after : goal.returns-in_err-after
returns-in_err-after c = search skip_ends

pub returns : goal.returns
returns c = search (c.in_ok-after.was, skip_ends)
