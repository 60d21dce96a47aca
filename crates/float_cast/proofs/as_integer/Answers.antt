-- `float_cast::as_integer` meets its contract: each variant at its own width.
use borrow.Author.Rules.{rules}
use Rattle.float_cast.proofs.Integrals.{double_integer, single_integer}
use Rattle.float_cast.proofs.as_integer.Goals as goal

pub returns-in-F64 : goal.returns-in-F64
returns-in-F64 c = search (double_integer, rules, single_integer)

pub returns-in-F32 : goal.returns-in-F32
returns-in-F32 c = search (double_integer, rules, single_integer)
