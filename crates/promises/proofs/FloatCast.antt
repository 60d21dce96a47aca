-- One result for each contract of `float_cast`, and one content of each lent buffer.
use Rattle.float_cast.specs.contracts.as_integer as as-integer
use Rattle.float_cast.proofs.as_integer.Reads as as-integer-reads
use Rattle.promises.proofs.One.{One}
use mathlib.Core.Path.{◌∙◌, sym, refl}

pub as_integer_one : One as-integer.ended as-integer-reads.Post (λ κs s. tt {0})
as_integer_one κs a r₁ r₂ s₁ s₂ p q = (p ∙ sym q, refl)
