-- `float_cast::to_i32` meets its contract: the whole number of the pattern, with its sign, is
-- clamped and handed to `From`.
use borrow.Author.Rules.{rules}
use Rattle.float_cast.proofs.Integrals.{integer_taken_lem, integer_lost}
use Rattle.float_cast.proofs.to_i32.Goals as goal

pub returns : goal.returns
returns c = search (integer_taken_lem, rules, integer_lost)

pub returns-in_default : goal.returns-in_default
returns-in_default c = search (integer_taken_lem, rules, integer_lost)
