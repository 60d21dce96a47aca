-- One result for each contract of `shortest`.
use Rattle.shortest.specs.contracts.check as check
use Rattle.shortest.proofs.check.Reads as check-reads
use Rattle.promises.proofs.One.{One}
use mathlib.Core.Path.{◌∙◌, sym, refl}

pub check_one : One check.ended check-reads.Post (λ κs s. tt {0})
check_one κs a r₁ r₂ s₁ s₂ p q = (p ∙ sym q, refl)
