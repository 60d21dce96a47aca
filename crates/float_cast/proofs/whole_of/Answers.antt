-- `float_cast::whole_of` meets its contract: each branch is a law of `Wholes`.
use Rattle.float_cast.proofs.Wholes.{whole_ends}
use Rattle.float_cast.proofs.whole_of.Goals as goal

pub returns-then-exponent-lt1023 : goal.returns-then-exponent-lt1023
returns-then-exponent-lt1023 c = search whole_ends

pub returns-then-exponent-lt1075 : goal.returns-then-exponent-lt1075
returns-then-exponent-lt1075 c = search whole_ends

pub returns-then-exponent-lt1086 : goal.returns-then-exponent-lt1086
returns-then-exponent-lt1086 c = search whole_ends

pub returns : goal.returns
returns c = search whole_ends
