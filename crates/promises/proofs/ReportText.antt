-- One result for each contract of `report_text`, and one content of each lent buffer.
use Rattle.promises.proofs.One.{One}
use Rattle.report_text.specs.contracts.report_into as report-into
use Rattle.report_text.proofs.report_into.Reads as report-into-reads
use Rattle.report_text.specs.contracts.write_report as write-report
use Rattle.report_text.proofs.write_report.Reads as write-report-reads
use mathlib.Core.Path.{◌∙◌, sym}

pub write_report_one : One write-report.ended write-report-reads.Post (λ κs s. s.1.0.now)
write_report_one κs a r₁ r₂ s₁ s₂ p q = (p.0 ∙ sym q.0, p.1 ∙ sym q.1)

pub report_into_one : One report-into.ended report-into-reads.Post (λ κs s. s.1.0.now)
report_into_one κs a r₁ r₂ s₁ s₂ p q = (p.1.0 ∙ sym q.1.0, p.1.1 ∙ sym q.1.1)
