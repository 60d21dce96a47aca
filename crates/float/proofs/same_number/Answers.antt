-- `float::same_number` meets its contract: the logic compares the values as their meanings are compared.
use lib.Ieee
use borrow.Author.Rules.{rules}
use Rattle.binary.proofs.Units.{fine}
use Rattle.float.proofs.Compared.{equal_is}
use Rattle.float.proofs.same_number.Goals as goal

pub returns : goal.returns
returns c = search (equal_is, fine Ieee.binary64, rules)
