-- One result for each contract of `header`, and one content of each lent buffer.
use Rattle.header.specs.contracts.header_length as header-length
use Rattle.header.proofs.header_length.Reads as header-length-reads
use Rattle.header.specs.contracts.read_atom_header as read-atom-header
use Rattle.header.proofs.read_atom_header.Reads as read-atom-header-reads
use Rattle.header.specs.contracts.read_atom_header_by as read-atom-header-by
use Rattle.header.proofs.read_atom_header_by.Reads as read-atom-header-by-reads
use Rattle.header.specs.contracts.read_header as read-header
use Rattle.header.proofs.read_header.Reads as read-header-reads
use Rattle.header.specs.contracts.read_header_by as read-header-by
use Rattle.header.proofs.read_header_by.Reads as read-header-by-reads
use Rattle.header.specs.contracts.write_atom_header as write-atom-header
use Rattle.header.proofs.write_atom_header.Reads as write-atom-header-reads
use Rattle.header.specs.contracts.write_header as write-header
use Rattle.header.proofs.write_header.Reads as write-header-reads
use Rattle.promises.proofs.One.{One}
use mathlib.Core.Path.{◌∙◌, sym, refl}
use Rattle.types.specs.declared.Kind.TheVariants as K

pub header_length_one : One header-length.ended header-length-reads.Post (λ κs s. tt {0})
header_length_one κs a r₁ r₂ s₁ s₂ p q = (p.0 K.Bytes ∙ sym (q.0 K.Bytes), refl)

pub write_atom_header_one : One write-atom-header.ended write-atom-header-reads.Post (λ κs s. s.0.now)
write_atom_header_one κs a r₁ r₂ s₁ s₂ p q = (p.0 ∙ sym q.0, p.1 ∙ sym q.1)

pub read_atom_header_by_one : One read-atom-header-by.ended read-atom-header-by-reads.Post (λ κs s. tt {0})
read_atom_header_by_one κs a r₁ r₂ s₁ s₂ p q = (p ∙ sym q, refl)

pub read_atom_header_one : One read-atom-header.ended read-atom-header-reads.Post (λ κs s. tt {0})
read_atom_header_one κs a r₁ r₂ s₁ s₂ p q = (p ∙ sym q, refl)

pub write_header_one : One write-header.ended write-header-reads.Post (λ κs s. s.0.now)
write_header_one κs a r₁ r₂ s₁ s₂ p q = (p.0 ∙ sym q.0, p.1 ∙ sym q.1)

pub read_header_by_one : One read-header-by.ended read-header-by-reads.Post (λ κs s. tt {0})
read_header_by_one κs a r₁ r₂ s₁ s₂ p q = (p ∙ sym q, refl)

pub read_header_one : One read-header.ended read-header-reads.Post (λ κs s. tt {0})
read_header_one κs a r₁ r₂ s₁ s₂ p q = (p ∙ sym q, refl)
