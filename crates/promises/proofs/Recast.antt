-- One result for each contract of `recast`, and one content of each lent buffer.
use Rattle.recast.specs.contracts.integer_from as integer-from
use Rattle.recast.proofs.integer_from.Reads as integer-from-reads
use Rattle.recast.specs.contracts.recast as recast
use Rattle.recast.proofs.recast.Reads as recast-reads
use Rattle.promises.proofs.One.{One}
use mathlib.Core.Path.{◌∙◌, sym, refl}

pub recast_one : One recast.ended recast-reads.Post (λ κs s. tt {0})
recast_one κs a r₁ r₂ s₁ s₂ p q = (p ∙ sym q, refl)

pub integer_from_one : One integer-from.ended integer-from-reads.Post (λ κs s. tt {0})
integer_from_one κs a r₁ r₂ s₁ s₂ p q = (p ∙ sym q, refl)
