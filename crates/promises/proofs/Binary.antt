-- One result for each contract of `binary`, and one content of each lent buffer.
use Rattle.binary.specs.contracts.f16_to_f32_bits as f16-to-f32-bits
use Rattle.binary.proofs.f16_to_f32_bits.Reads as f16-to-f32-bits-reads
use Rattle.binary.specs.contracts.f32_of_bits as f32-of-bits
use Rattle.binary.proofs.f32_of_bits.Reads as f32-of-bits-reads
use Rattle.binary.specs.contracts.f32_pattern as f32_pattern
use Rattle.binary.proofs.f32_pattern.Reads as f32-pattern-reads
use Rattle.binary.specs.contracts.f32_to_f16_bits as f32-to-f16-bits
use Rattle.binary.proofs.f32_to_f16_bits.Reads as f32-to-f16-bits-reads
use Rattle.binary.specs.contracts.f32_to_f64_bits as f32-to-f64-bits
use Rattle.binary.proofs.f32_to_f64_bits.Reads as f32-to-f64-bits-reads
use Rattle.binary.specs.contracts.f64_of_bits as f64-of-bits
use Rattle.binary.proofs.f64_of_bits.Reads as f64-of-bits-reads
use Rattle.binary.specs.contracts.f64_pattern as f64_pattern
use Rattle.binary.proofs.f64_pattern.Reads as f64-pattern-reads
use Rattle.binary.specs.contracts.f64_to_f32_bits as f64-to-f32-bits
use Rattle.binary.proofs.f64_to_f32_bits.Reads as f64-to-f32-bits-reads
use Rattle.promises.proofs.One.{One}
use mathlib.Core.Path.{◌∙◌, sym, refl}

pub f16_to_f32_bits_one : One f16-to-f32-bits.ended f16-to-f32-bits-reads.Post (λ κs s. tt {0})
f16_to_f32_bits_one κs a r₁ r₂ s₁ s₂ p q = (p ∙ sym q, refl)

pub f32_to_f64_bits_one : One f32-to-f64-bits.ended f32-to-f64-bits-reads.Post (λ κs s. tt {0})
f32_to_f64_bits_one κs a r₁ r₂ s₁ s₂ p q = (p ∙ sym q, refl)

pub f32_to_f16_bits_one : One f32-to-f16-bits.ended f32-to-f16-bits-reads.Post (λ κs s. tt {0})
f32_to_f16_bits_one κs a r₁ r₂ s₁ s₂ p q = (p ∙ sym q, refl)

pub f64_to_f32_bits_one : One f64-to-f32-bits.ended f64-to-f32-bits-reads.Post (λ κs s. tt {0})
f64_to_f32_bits_one κs a r₁ r₂ s₁ s₂ p q = (p ∙ sym q, refl)

pub f32_of_bits_one : One f32-of-bits.ended f32-of-bits-reads.Post (λ κs s. tt {0})
f32_of_bits_one κs a r₁ r₂ s₁ s₂ p q = (p ∙ sym q, refl)

pub f64_of_bits_one : One f64-of-bits.ended f64-of-bits-reads.Post (λ κs s. tt {0})
f64_of_bits_one κs a r₁ r₂ s₁ s₂ p q = (p ∙ sym q, refl)

pub f32_pattern_one : One f32_pattern.ended f32-pattern-reads.Post (λ κs s. tt {0})
f32_pattern_one κs a r₁ r₂ s₁ s₂ p q = (p ∙ sym q, refl)

pub f64_pattern_one : One f64_pattern.ended f64-pattern-reads.Post (λ κs s. tt {0})
f64_pattern_one κs a r₁ r₂ s₁ s₂ p q = (p ∙ sym q, refl)
