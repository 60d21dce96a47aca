-- One result for each contract of `dictionary`, and one content of each lent buffer.
use Rattle.dictionary.specs.contracts.run as run
use Rattle.dictionary.proofs.run.Reads as run-reads
use Rattle.dictionary.specs.contracts.skip_atom as skip-atom
use Rattle.dictionary.proofs.skip_atom.Reads as skip-atom-reads
use Rattle.dictionary.specs.contracts.tally as tally
use Rattle.dictionary.proofs.tally.Reads as tally-reads
use Rattle.promises.proofs.One.{One}
use mathlib.Core.Path.{◌∙◌, sym, refl}

pub skip_atom_one : One skip-atom.ended skip-atom-reads.Post (λ κs s. tt {0})
skip_atom_one κs a r₁ r₂ s₁ s₂ p q = (p ∙ sym q, refl)

pub run_one : One run.ended run-reads.Post (λ κs s. tt {0})
run_one κs a r₁ r₂ s₁ s₂ p q = (p ∙ sym q, refl)

pub tally_one : One tally.ended tally-reads.Post (λ κs s. tt {0})
tally_one κs a r₁ r₂ s₁ s₂ p q = (p ∙ sym q, refl)
