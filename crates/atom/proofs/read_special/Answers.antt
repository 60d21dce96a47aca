-- `atom::read_special` meets its contract: a special is known or not.
use Rattle.atom.proofs.Ends.{special_ends}
use Rattle.atom.proofs.read_special.Goals as goal

pub returns-in_err-special : goal.returns-in_err-special
returns-in_err-special c = search special_ends

pub returns : goal.returns
returns c = search (c.in_ok-special.was, special_ends)
