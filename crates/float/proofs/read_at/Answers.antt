-- `float::read_at` meets its contract: the kind is judged first, then the count, then the room under the way.
use Rattle.float.proofs.Ends.{read_ends}
use Rattle.float.proofs.read_at.Goals as goal

pub returns-then-code-ne3 : goal.returns-then-code-ne3
returns-then-code-ne3 c = search read_ends

pub returns-then-not-allowed : goal.returns-then-not-allowed
returns-then-not-allowed c = search read_ends

pub returns-then-count-source : goal.returns-then-count-source
returns-then-count-source c = search read_ends

pub returns-then-is_exact : goal.returns-then-is_exact
returns-then-is_exact c = search read_ends

pub returns : goal.returns
returns c = search read_ends
