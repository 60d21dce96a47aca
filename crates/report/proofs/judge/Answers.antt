-- `report::judge` meets its contract: the length's test is the definition's, then the signature's answer decides.
use Rattle.report.proofs.Ends.{judge_ends}
use Rattle.report.proofs.judge.Goals as goal

pub returns-then-file-gt65536 : goal.returns-then-file-gt65536
returns-then-file-gt65536 c = search judge_ends

pub count-requires : goal.count-requires
count-requires c = search judge_ends

pub returns-in-Ok : goal.returns-in-Ok
returns-in-Ok c = search judge_ends

pub returns-in-Err : goal.returns-in-Err
returns-in-Err c = search judge_ends
