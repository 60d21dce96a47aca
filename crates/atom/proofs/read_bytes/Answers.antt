-- `atom::read_bytes` meets its contract: the charge first, then the string's own refusals.
use Rattle.atom.proofs.Ends.{string_ends}
use Rattle.atom.proofs.read_bytes.Goals as goal

pub returns-in_err-rest-clause-value : goal.returns-in_err-rest-clause-value
returns-in_err-rest-clause-value c = search string_ends

pub returns-in_err-after-clause-value : goal.returns-in_err-after-clause-value
unfolding Rattle.atom.specs.Atoms.judged
returns-in_err-after-clause-value c = search (c.in_ok-rest.was, string_ends)

pub returns-clause-value : goal.returns-clause-value
returns-clause-value c = search (c.in_ok-rest.was, c.in_ok-after.was, string_ends)
