-- One result for each contract of `reader`, and one content of each lent buffer.
use Rattle.promises.proofs.One.{One, OnePart}
use Rattle.reader.specs.contracts.buffered_read_bytes as buffered-read-bytes
use Rattle.reader.proofs.buffered_read_bytes.Reads as buffered-read-bytes-reads
use Rattle.reader.specs.contracts.copy_bytes as copy-bytes
use Rattle.reader.proofs.copy_bytes.Reads as copy-bytes-reads
use Rattle.reader.specs.contracts.lend_bytes as lend-bytes
use Rattle.reader.proofs.lend_bytes.Reads as lend-bytes-reads
use Rattle.reader.specs.contracts.part as part
use Rattle.reader.proofs.part.Reads as part-reads
use Rattle.reader.specs.contracts.read as read
use Rattle.reader.proofs.read.Reads as read-reads
use Rattle.reader.specs.contracts.read_exact as read-exact
use Rattle.reader.proofs.read_exact.Reads as read-exact-reads
use Rattle.reader.specs.contracts.as_slice as as-slice
use Rattle.reader.proofs.as_slice.Reads as as-slice-reads
use mathlib.Core.Path.{◌∙◌, sym, refl}

pub part_one : OnePart part.ended part-reads.Post (λ κs r. r.ref_ptr) (λ κs r. r.now)
part_one κs a r₁ r₂ s₁ s₂ p q = (p.1 ∙ sym q.1, p.0 ∙ sym q.0)

pub as_slice_one : OnePart as-slice.ended as-slice-reads.Post (λ κs r. r.ref_ptr) (λ κs r. r.now)
as_slice_one κs a r₁ r₂ s₁ s₂ p q = (p.1 ∙ sym q.1, p.0 ∙ sym q.0)

pub lend_bytes_one : One lend-bytes.ended lend-bytes-reads.Post (λ κs s. tt {0})
lend_bytes_one κs a r₁ r₂ s₁ s₂ p q = (p ∙ sym q, refl)

pub copy_bytes_one : One copy-bytes.ended copy-bytes-reads.Post (λ κs s. s.1.1.1.0.now)
copy_bytes_one κs a r₁ r₂ s₁ s₂ p q = (p.0 ∙ sym q.0, p.1 ∙ sym q.1)

pub buffered_read_bytes_one : One buffered-read-bytes.ended buffered-read-bytes-reads.Post (λ κs s. s.1.1.1.0.now)
buffered_read_bytes_one κs a r₁ r₂ s₁ s₂ p q = (p.0 ∙ sym q.0, p.1 ∙ sym q.1)

pub read_one : One read.ended read-reads.Post (λ κs s. s.1.1.0.now)
read_one κs a r₁ r₂ s₁ s₂ p q = (p.0 ∙ sym q.0, p.1 ∙ sym q.1)

pub read_exact_one : One read-exact.ended read-exact-reads.Post (λ κs s. s.1.1.0.now)
read_exact_one κs a r₁ r₂ s₁ s₂ p q = (p.0 ∙ sym q.0, p.1 ∙ sym q.1)
