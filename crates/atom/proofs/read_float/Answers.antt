-- `atom::read_float` meets its contract: the charge first, then the count, then the end of input.
use Rattle.atom.proofs.Ends.{number_ends}
use Rattle.atom.proofs.read_float.Goals as goal

pub returns-in_err-rest : goal.returns-in_err-rest
returns-in_err-rest c = search number_ends

pub returns-then-count-source : goal.returns-then-count-source
returns-then-count-source c = search (c.in_ok-rest.was, number_ends)

pub returns-then-is_exact : goal.returns-then-is_exact
returns-then-is_exact c = search (c.in_ok-rest.was, number_ends)

pub returns-then-allowed : goal.returns-then-allowed
returns-then-allowed c = search (c.in_ok-rest.was, number_ends)

pub returns : goal.returns
returns c = search (c.in_ok-rest.was, number_ends)
