-- One result for each contract of `integer`, and one content of each lent buffer.
use Rattle.integer.specs.contracts.allowed as allowed
use Rattle.integer.proofs.allowed.Reads as allowed-reads
use Rattle.integer.specs.contracts.filled_integer as filled-integer
use Rattle.integer.proofs.filled_integer.Reads as filled-integer-reads
use Rattle.integer.specs.contracts.integer_at as integer_at
use Rattle.integer.proofs.integer_at.Reads as integer-at-reads
use Rattle.integer.specs.contracts.read_from as read-from
use Rattle.integer.proofs.read_from.Reads as read-from-reads
use Rattle.promises.proofs.One.{One}
use mathlib.Core.Path.{◌∙◌, sym, refl}

pub allowed_one : One allowed.ended allowed-reads.Post (λ κs s. tt {0})
allowed_one κs a r₁ r₂ s₁ s₂ p q = (p ∙ sym q, refl)

pub integer_at_one : One integer_at.ended integer-at-reads.Post (λ κs s. tt {0})
integer_at_one κs a r₁ r₂ s₁ s₂ p q = (p ∙ sym q, refl)

pub filled_integer_one : One filled-integer.ended filled-integer-reads.Post (λ κs s. tt {0})
filled_integer_one κs a r₁ r₂ s₁ s₂ p q = (p ∙ sym q, refl)

pub read_from_one : One read-from.ended read-from-reads.Post (λ κs s. tt {0})
read_from_one κs a r₁ r₂ s₁ s₂ p q = (p ∙ sym q, refl)
