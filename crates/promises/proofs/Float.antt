-- One result for each contract of `float`, and one content of each lent buffer.
use Rattle.float.specs.contracts.allowed as allowed
use Rattle.float.proofs.allowed.Reads as allowed-reads
use Rattle.float.specs.contracts.as_f32 as as_f32_rows
use Rattle.float.proofs.as_f32.Reads as as-f32-reads
use Rattle.float.specs.contracts.as_f64 as as-f64
use Rattle.float.proofs.as_f64.Reads as as-f64-reads
use Rattle.float.specs.contracts.equal as equal
use Rattle.float.proofs.equal.Reads as equal-reads
use Rattle.float.specs.contracts.filled_bits as filled-bits
use Rattle.float.proofs.filled_bits.Reads as filled-bits-reads
use Rattle.float.specs.contracts.float_of as float_of
use Rattle.float.proofs.float_of.Reads as float-of-reads
use Rattle.float.specs.contracts.is_zero as is_zero
use Rattle.float.proofs.is_zero.Reads as is-zero-reads
use Rattle.float.specs.contracts.read_from as read-from
use Rattle.float.proofs.read_from.Reads as read-from-reads
use Rattle.float.specs.contracts.stored_bits as stored_bits
use Rattle.float.proofs.stored_bits.Reads as stored-bits-reads
use Rattle.float.specs.contracts.write_f32 as write-f32
use Rattle.float.proofs.write_f32.Reads as write-f32-reads
use Rattle.float.specs.contracts.write_f32_bits as write-f32-bits
use Rattle.float.proofs.write_f32_bits.Reads as write-f32-bits-reads
use Rattle.float.specs.contracts.write_f64 as write-f64
use Rattle.float.proofs.write_f64.Reads as write-f64-reads
use Rattle.float.specs.contracts.write_f64_bits as write-f64-bits
use Rattle.float.proofs.write_f64_bits.Reads as write-f64-bits-reads
use Rattle.float.specs.contracts.write_to as write-to
use Rattle.float.proofs.write_to.Reads as write-to-reads
use Rattle.promises.proofs.One.{One}
use mathlib.Core.Path.{◌∙◌, sym, refl}

pub allowed_one : One allowed.ended allowed-reads.Post (λ κs s. tt {0})
allowed_one κs a r₁ r₂ s₁ s₂ p q = (p ∙ sym q, refl)

pub float_of_one : One float_of.ended float-of-reads.Post (λ κs s. tt {0})
float_of_one κs a r₁ r₂ s₁ s₂ p q = (p ∙ sym q, refl)

pub stored_bits_one : One stored_bits.ended stored-bits-reads.Post (λ κs s. tt {0})
stored_bits_one κs a r₁ r₂ s₁ s₂ p q = (p.0 ∙ sym q.0, refl)

pub filled_bits_one : One filled-bits.ended filled-bits-reads.Post (λ κs s. tt {0})
filled_bits_one κs a r₁ r₂ s₁ s₂ p q = (p.0 ∙ sym q.0, refl)

pub read_from_one : One read-from.ended read-from-reads.Post (λ κs s. tt {0})
read_from_one κs a r₁ r₂ s₁ s₂ p q = (p ∙ sym q, refl)

pub write_f32_bits_one : One write-f32-bits.ended write-f32-bits-reads.Post (λ κs s. s.0.now)
write_f32_bits_one κs a r₁ r₂ s₁ s₂ p q = (p.0 ∙ sym q.0, p.1 ∙ sym q.1)

pub write_f64_bits_one : One write-f64-bits.ended write-f64-bits-reads.Post (λ κs s. s.0.now)
write_f64_bits_one κs a r₁ r₂ s₁ s₂ p q = (p.0 ∙ sym q.0, p.1 ∙ sym q.1)

pub write_f32_one : One write-f32.ended write-f32-reads.Post (λ κs s. s.0.now)
write_f32_one κs a r₁ r₂ s₁ s₂ p q = (p.0 ∙ sym q.0, p.1 ∙ sym q.1)

pub write_f64_one : One write-f64.ended write-f64-reads.Post (λ κs s. s.0.now)
write_f64_one κs a r₁ r₂ s₁ s₂ p q = (p.0 ∙ sym q.0, p.1 ∙ sym q.1)

pub write_to_one : One write-to.ended write-to-reads.Post (λ κs s. s.0.now)
write_to_one κs a r₁ r₂ s₁ s₂ p q = (p.0 ∙ sym q.0, p.1 ∙ sym q.1)

pub is_zero_one : One is_zero.ended is-zero-reads.Post (λ κs s. tt {0})
is_zero_one κs a r₁ r₂ s₁ s₂ p q = (p ∙ sym q, refl)

pub as_f32_one : One as_f32_rows.ended as-f32-reads.Post (λ κs s. tt {0})
as_f32_one κs a r₁ r₂ s₁ s₂ p q = (p ∙ sym q, refl)

pub as_f64_one : One as-f64.ended as-f64-reads.Post (λ κs s. tt {0})
as_f64_one κs a r₁ r₂ s₁ s₂ p q = (p ∙ sym q, refl)

pub equal_one : One equal.ended equal-reads.Post (λ κs s. tt {0})
equal_one κs a r₁ r₂ s₁ s₂ p q = (p ∙ sym q, refl)
