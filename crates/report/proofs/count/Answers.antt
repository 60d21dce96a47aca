-- `report::count` meets its contract: the tally's answer decides, and a refused atom starts within what was tallied.
use Rattle.report.proofs.Ends.{count_ends}
use Rattle.report.proofs.count.Goals as goal

pub overflow_add-result : goal.overflow_add-result
overflow_add-result c = search count_ends
