-- `integer::read_from` meets its contract: the kind is judged, then the count, then the room, and last the way.
use Rattle.integer.proofs.Ends.{read_ends}
use Rattle.integer.proofs.read_from.Goals as goal

pub returns-then-not-is_integer : goal.returns-then-not-is_integer
returns-then-not-is_integer c = search read_ends

pub returns-then-not-allowed : goal.returns-then-not-allowed
returns-then-not-allowed c = search read_ends

pub returns-then-count-source : goal.returns-then-count-source
returns-then-count-source c = search read_ends

pub returns-then-is_exact : goal.returns-then-is_exact
returns-then-is_exact c = search read_ends

pub returns : goal.returns
returns c = search read_ends
