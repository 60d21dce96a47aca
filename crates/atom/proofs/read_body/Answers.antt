-- `atom::read_body` meets its contract, kind by kind.
use Rattle.atom.proofs.Ends.{body_ends}
use Rattle.atom.proofs.read_body.Goals as goal

pub returns-in-Sequence-clause-value : goal.returns-in-Sequence-clause-value
returns-in-Sequence-clause-value c = search body_ends
