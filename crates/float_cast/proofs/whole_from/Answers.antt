-- `float_cast::whole_from` meets its contract: the exponent's field decides.
use borrow.Author.Rules.{rules}
use Rattle.float_cast.proofs.Integrals.{small_number, no_number, large_number}
use Rattle.float_cast.proofs.whole_from.Goals as goal

pub returns-then-exponent-small : goal.returns-then-exponent-small
returns-then-exponent-small c = search (small_number, rules, no_number, large_number)

pub returns-then-exponent-eq2047 : goal.returns-then-exponent-eq2047
returns-then-exponent-eq2047 c = search (small_number, rules, no_number, large_number)

pub returns : goal.returns
returns c = search (small_number, rules, no_number, large_number)
