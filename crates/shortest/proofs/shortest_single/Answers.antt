-- `shortest::shortest_single` meets its contract: narrowing tells the smallest width.
use Rattle.shortest.proofs.Arms.{width_ends}
use Rattle.shortest.proofs.shortest_single.Goals as goal

pub returns : goal.returns
returns c = search width_ends
