-- `report_text::append_line` meets its contract: the digits that `itoa` writes are those of the definition.
use Rattle.report_text.proofs.Ends.{line_ends}
use Rattle.report_text.proofs.append_line.Goals as goal

pub returns-clause-appended : goal.returns-clause-appended
returns-clause-appended c = search line_ends
