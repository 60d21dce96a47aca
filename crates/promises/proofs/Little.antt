-- One result for each contract of `little`, and one content of each lent buffer.
use Rattle.little.specs.contracts.bits_of_i16 as bits-of-i16
use Rattle.little.proofs.bits_of_i16.Reads as bits-of-i16-reads
use Rattle.little.specs.contracts.bits_of_i32 as bits-of-i32
use Rattle.little.proofs.bits_of_i32.Reads as bits-of-i32-reads
use Rattle.little.specs.contracts.bits_of_i64 as bits-of-i64
use Rattle.little.proofs.bits_of_i64.Reads as bits-of-i64-reads
use Rattle.little.specs.contracts.bits_of_i8 as bits-of-i8
use Rattle.little.proofs.bits_of_i8.Reads as bits-of-i8-reads
use Rattle.little.specs.contracts.byte64 as byte64
use Rattle.little.proofs.byte64.Reads as byte64-reads
use Rattle.little.specs.contracts.byte_at as byte_at
use Rattle.little.proofs.byte_at.Reads as byte-at-reads
use Rattle.little.specs.contracts.filled as filled
use Rattle.little.proofs.filled.Reads as filled-reads
use Rattle.little.specs.contracts.i16_of as i16-of
use Rattle.little.proofs.i16_of.Reads as i16-of-reads
use Rattle.little.specs.contracts.i24_of as i24-of
use Rattle.little.proofs.i24_of.Reads as i24-of-reads
use Rattle.little.specs.contracts.i32_of as i32-of
use Rattle.little.proofs.i32_of.Reads as i32-of-reads
use Rattle.little.specs.contracts.i48_of as i48-of
use Rattle.little.proofs.i48_of.Reads as i48-of-reads
use Rattle.little.specs.contracts.i64_of as i64-of
use Rattle.little.proofs.i64_of.Reads as i64-of-reads
use Rattle.little.specs.contracts.i8_of as i8-of
use Rattle.little.proofs.i8_of.Reads as i8-of-reads
use Rattle.little.specs.contracts.le1 as le1
use Rattle.little.proofs.le1.Reads as le1-reads
use Rattle.little.specs.contracts.le2 as le2
use Rattle.little.proofs.le2.Reads as le2-reads
use Rattle.little.specs.contracts.le3 as le3
use Rattle.little.proofs.le3.Reads as le3-reads
use Rattle.little.specs.contracts.le4 as le4
use Rattle.little.proofs.le4.Reads as le4-reads
use Rattle.little.specs.contracts.le6 as le6
use Rattle.little.proofs.le6.Reads as le6-reads
use Rattle.little.specs.contracts.le8 as le8
use Rattle.little.proofs.le8.Reads as le8-reads
use Rattle.little.specs.contracts.put1 as put1
use Rattle.little.proofs.put1.Reads as put1-reads
use Rattle.little.specs.contracts.put16 as put16
use Rattle.little.proofs.put16.Reads as put16-reads
use Rattle.little.specs.contracts.put2 as put2
use Rattle.little.proofs.put2.Reads as put2-reads
use Rattle.little.specs.contracts.put3 as put3
use Rattle.little.proofs.put3.Reads as put3-reads
use Rattle.little.specs.contracts.put4 as put4
use Rattle.little.proofs.put4.Reads as put4-reads
use Rattle.little.specs.contracts.put6 as put6
use Rattle.little.proofs.put6.Reads as put6-reads
use Rattle.little.specs.contracts.put8 as put8
use Rattle.little.proofs.put8.Reads as put8-reads
use Rattle.promises.proofs.One.{One}
use mathlib.Core.Path.{◌∙◌, sym, refl}

pub byte64_one : One byte64.ended byte64-reads.Post (λ κs s. tt {0})
byte64_one κs a r₁ r₂ s₁ s₂ p q = (p.0 ∙ sym q.0, refl)

pub le1_one : One le1.ended le1-reads.Post (λ κs s. tt {0})
le1_one κs a r₁ r₂ s₁ s₂ p q = (p.0 ∙ sym q.0, refl)

pub le2_one : One le2.ended le2-reads.Post (λ κs s. tt {0})
le2_one κs a r₁ r₂ s₁ s₂ p q = (p.0 ∙ sym q.0, refl)

pub le3_one : One le3.ended le3-reads.Post (λ κs s. tt {0})
le3_one κs a r₁ r₂ s₁ s₂ p q = (p.0 ∙ sym q.0, refl)

pub le4_one : One le4.ended le4-reads.Post (λ κs s. tt {0})
le4_one κs a r₁ r₂ s₁ s₂ p q = (p.0 ∙ sym q.0, refl)

pub le6_one : One le6.ended le6-reads.Post (λ κs s. tt {0})
le6_one κs a r₁ r₂ s₁ s₂ p q = (p.0 ∙ sym q.0, refl)

pub le8_one : One le8.ended le8-reads.Post (λ κs s. tt {0})
le8_one κs a r₁ r₂ s₁ s₂ p q = (p.0 ∙ sym q.0, refl)

pub byte_at_one : One byte_at.ended byte-at-reads.Post (λ κs s. tt {0})
byte_at_one κs a r₁ r₂ s₁ s₂ p q = (p.0 ∙ sym q.0, refl)

pub filled_one : One filled.ended filled-reads.Post (λ κs s. tt {0})
filled_one κs a r₁ r₂ s₁ s₂ p q = (p ∙ sym q, refl)

pub i8_of_one : One i8-of.ended i8-of-reads.Post (λ κs s. tt {0})
i8_of_one κs a r₁ r₂ s₁ s₂ p q = (p ∙ sym q, refl)

pub i16_of_one : One i16-of.ended i16-of-reads.Post (λ κs s. tt {0})
i16_of_one κs a r₁ r₂ s₁ s₂ p q = (p ∙ sym q, refl)

pub i24_of_one : One i24-of.ended i24-of-reads.Post (λ κs s. tt {0})
i24_of_one κs a r₁ r₂ s₁ s₂ p q = (p ∙ sym q, refl)

pub i32_of_one : One i32-of.ended i32-of-reads.Post (λ κs s. tt {0})
i32_of_one κs a r₁ r₂ s₁ s₂ p q = (p ∙ sym q, refl)

pub i48_of_one : One i48-of.ended i48-of-reads.Post (λ κs s. tt {0})
i48_of_one κs a r₁ r₂ s₁ s₂ p q = (p ∙ sym q, refl)

pub i64_of_one : One i64-of.ended i64-of-reads.Post (λ κs s. tt {0})
i64_of_one κs a r₁ r₂ s₁ s₂ p q = (p ∙ sym q, refl)

pub bits_of_i8_one : One bits-of-i8.ended bits-of-i8-reads.Post (λ κs s. tt {0})
bits_of_i8_one κs a r₁ r₂ s₁ s₂ p q = (p.0 ∙ sym q.0, refl)

pub bits_of_i16_one : One bits-of-i16.ended bits-of-i16-reads.Post (λ κs s. tt {0})
bits_of_i16_one κs a r₁ r₂ s₁ s₂ p q = (p.0 ∙ sym q.0, refl)

pub bits_of_i32_one : One bits-of-i32.ended bits-of-i32-reads.Post (λ κs s. tt {0})
bits_of_i32_one κs a r₁ r₂ s₁ s₂ p q = (p.0 ∙ sym q.0, refl)

pub bits_of_i64_one : One bits-of-i64.ended bits-of-i64-reads.Post (λ κs s. tt {0})
bits_of_i64_one κs a r₁ r₂ s₁ s₂ p q = (p.0 ∙ sym q.0, refl)

pub put1_one : One put1.ended put1-reads.Post (λ κs s. s.0.now)
put1_one κs a r₁ r₂ s₁ s₂ p q = (p.0 ∙ sym q.0, p.1 ∙ sym q.1)

pub put2_one : One put2.ended put2-reads.Post (λ κs s. s.0.now)
put2_one κs a r₁ r₂ s₁ s₂ p q = (p.0 ∙ sym q.0, p.1 ∙ sym q.1)

pub put3_one : One put3.ended put3-reads.Post (λ κs s. s.0.now)
put3_one κs a r₁ r₂ s₁ s₂ p q = (p.0 ∙ sym q.0, p.1 ∙ sym q.1)

pub put4_one : One put4.ended put4-reads.Post (λ κs s. s.0.now)
put4_one κs a r₁ r₂ s₁ s₂ p q = (p.0 ∙ sym q.0, p.1 ∙ sym q.1)

pub put6_one : One put6.ended put6-reads.Post (λ κs s. s.0.now)
put6_one κs a r₁ r₂ s₁ s₂ p q = (p.0 ∙ sym q.0, p.1 ∙ sym q.1)

pub put8_one : One put8.ended put8-reads.Post (λ κs s. s.0.now)
put8_one κs a r₁ r₂ s₁ s₂ p q = (p.0 ∙ sym q.0, p.1 ∙ sym q.1)

pub put16_one : One put16.ended put16-reads.Post (λ κs s. s.0.now)
put16_one κs a r₁ r₂ s₁ s₂ p q = (p.0 ∙ sym q.0, p.1 ∙ sym q.1)
