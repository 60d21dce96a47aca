-- `shortest::short_end` meets its contract.
use Rattle.shortest.proofs.Shorts.{short_ends}
use Rattle.shortest.proofs.short_end.Goals as goal

pub returns-then-body-source : goal.returns-then-body-source
returns-then-body-source c = search (c.in_ok-body.was, short_ends)
