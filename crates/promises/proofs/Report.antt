-- One result for each contract of `report`, and one content of each lent buffer.
use Rattle.promises.proofs.One.{One}
use Rattle.report.specs.contracts.judge as judge
use Rattle.report.proofs.judge.Reads as judge-reads
use mathlib.Core.Path.{◌∙◌, sym, refl}

pub judge_one : One judge.ended judge-reads.Post (λ κs s. tt {0})
judge_one κs a r₁ r₂ s₁ s₂ p q = (p ∙ sym q, refl)
