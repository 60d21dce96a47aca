-- One result for each contract of `atom`, and one content of each lent buffer.
use Rattle.atom.specs.contracts.count_of as count_of
use Rattle.atom.proofs.count_of.Reads as count-of-reads
use Rattle.atom.specs.contracts.in_memory_int_size as in-memory-int-size
use Rattle.atom.proofs.in_memory_int_size.Reads as in-memory-int-size-reads
use Rattle.atom.specs.contracts.read_atom as read-atom
use Rattle.atom.proofs.read_atom.Reads as read-atom-reads
use Rattle.atom.specs.contracts.read_atom_by as read-atom-by
use Rattle.atom.proofs.read_atom_by.Reads as read-atom-by-reads
use Rattle.atom.specs.contracts.update_budget as update-budget
use Rattle.atom.proofs.update_budget.Reads as update-budget-reads
use Rattle.promises.proofs.One.{One}
use mathlib.Core.Path.{◌∙◌, sym, refl}

pub count_of_one : One count_of.ended count-of-reads.Post (λ κs s. tt {0})
count_of_one κs a r₁ r₂ s₁ s₂ p q = (p.0 ∙ sym q.0, refl)

pub in_memory_int_size_one : One in-memory-int-size.ended in-memory-int-size-reads.Post (λ κs s. tt {0})
in_memory_int_size_one κs a r₁ r₂ s₁ s₂ p q = (p ∙ sym q, refl)

pub update_budget_one : One update-budget.ended update-budget-reads.Post (λ κs s. tt {0})
update_budget_one κs a r₁ r₂ s₁ s₂ p q = (p ∙ sym q, refl)

pub read_atom_by_one : One read-atom-by.ended read-atom-by-reads.Post (λ κs s. s.1.1.1.0.now)
read_atom_by_one κs a r₁ r₂ s₁ s₂ p q = (p.0 ∙ sym q.0, p.1 ∙ sym q.1)

pub read_atom_one : One read-atom.ended read-atom-reads.Post (λ κs s. tt {0})
read_atom_one κs a r₁ r₂ s₁ s₂ p q = (p ∙ sym q, refl)
