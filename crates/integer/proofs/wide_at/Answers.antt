-- `integer::wide_at` meets its contract: the two words of 8 bytes are those of the number of 16.
use Rattle.integer.proofs.Arms.{arms}
use Rattle.integer.proofs.wide_at.Goals as goal

pub returns : goal.returns
returns c = search arms
