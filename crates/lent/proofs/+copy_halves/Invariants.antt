-- `lent::copy_halves` meets its contract: its halves are the whole. The length of the source falls with each call.
use Rattle.std.proofs.Common.{length}
use lib.ListN.{length}
use Rattle.lent.proofs.+copy_halves.Given as goal

-- proposed from what the function passes where it calls itself
abbrev pub decreases-copy_halves : goal.decreases-copy_halves
decreases-copy_halves l = length l.source.now
