-- One result for each contract of `writers`, and one content of each lent buffer.
use Rattle.promises.proofs.One.{One}
use Rattle.writers.specs.contracts.write_bool as write-bool
use Rattle.writers.proofs.write_bool.Reads as write-bool-reads
use Rattle.writers.specs.contracts.write_bytes as write_bytes
use Rattle.writers.proofs.write_bytes.Reads as write-bytes-reads
use Rattle.writers.specs.contracts.write_i128 as write-i128
use Rattle.writers.proofs.write_i128.Reads as write-i128-reads
use Rattle.writers.specs.contracts.write_i16 as write-i16
use Rattle.writers.proofs.write_i16.Reads as write-i16-reads
use Rattle.writers.specs.contracts.write_i24 as write-i24
use Rattle.writers.proofs.write_i24.Reads as write-i24-reads
use Rattle.writers.specs.contracts.write_i32 as write-i32
use Rattle.writers.proofs.write_i32.Reads as write-i32-reads
use Rattle.writers.specs.contracts.write_i48 as write-i48
use Rattle.writers.proofs.write_i48.Reads as write-i48-reads
use Rattle.writers.specs.contracts.write_i64 as write-i64
use Rattle.writers.proofs.write_i64.Reads as write-i64-reads
use Rattle.writers.specs.contracts.write_i8 as write-i8
use Rattle.writers.proofs.write_i8.Reads as write-i8-reads
use Rattle.writers.specs.contracts.write_named as write-named
use Rattle.writers.proofs.write_named.Reads as write-named-reads
use Rattle.writers.specs.contracts.write_none as write-none
use Rattle.writers.proofs.write_none.Reads as write-none-reads
use Rattle.writers.specs.contracts.write_special as write-special
use Rattle.writers.proofs.write_special.Reads as write-special-reads
use Rattle.writers.specs.contracts.write_to as write-to
use Rattle.writers.proofs.write_to.Reads as write-to-reads
use Rattle.writers.specs.contracts.write_u128 as write-u128
use Rattle.writers.proofs.write_u128.Reads as write-u128-reads
use Rattle.writers.specs.contracts.write_u16 as write-u16
use Rattle.writers.proofs.write_u16.Reads as write-u16-reads
use Rattle.writers.specs.contracts.write_u24 as write-u24
use Rattle.writers.proofs.write_u24.Reads as write-u24-reads
use Rattle.writers.specs.contracts.write_u32 as write-u32
use Rattle.writers.proofs.write_u32.Reads as write-u32-reads
use Rattle.writers.specs.contracts.write_u48 as write-u48
use Rattle.writers.proofs.write_u48.Reads as write-u48-reads
use Rattle.writers.specs.contracts.write_u64 as write-u64
use Rattle.writers.proofs.write_u64.Reads as write-u64-reads
use Rattle.writers.specs.contracts.write_u8 as write-u8
use Rattle.writers.proofs.write_u8.Reads as write-u8-reads
use Rattle.writers.specs.contracts.write_unit as write-unit
use Rattle.writers.proofs.write_unit.Reads as write-unit-reads
use mathlib.Core.Path.{◌∙◌, sym}

pub write_special_one : One write-special.ended write-special-reads.Post (λ κs s. s.0.now)
write_special_one κs a r₁ r₂ s₁ s₂ p q = (p.0 ∙ sym q.0, p.1 ∙ sym q.1)

pub write_none_one : One write-none.ended write-none-reads.Post (λ κs s. s.0.now)
write_none_one κs a r₁ r₂ s₁ s₂ p q = (p.0 ∙ sym q.0, p.1 ∙ sym q.1)

pub write_unit_one : One write-unit.ended write-unit-reads.Post (λ κs s. s.0.now)
write_unit_one κs a r₁ r₂ s₁ s₂ p q = (p.0 ∙ sym q.0, p.1 ∙ sym q.1)

pub write_named_one : One write-named.ended write-named-reads.Post (λ κs s. s.0.now)
write_named_one κs a r₁ r₂ s₁ s₂ p q = (p.0 ∙ sym q.0, p.1 ∙ sym q.1)

pub write_bool_one : One write-bool.ended write-bool-reads.Post (λ κs s. s.0.now)
write_bool_one κs a r₁ r₂ s₁ s₂ p q = (p.0 ∙ sym q.0, p.1 ∙ sym q.1)

pub write_i8_one : One write-i8.ended write-i8-reads.Post (λ κs s. s.0.now)
write_i8_one κs a r₁ r₂ s₁ s₂ p q = (p.0 ∙ sym q.0, p.1 ∙ sym q.1)

pub write_i16_one : One write-i16.ended write-i16-reads.Post (λ κs s. s.0.now)
write_i16_one κs a r₁ r₂ s₁ s₂ p q = (p.0 ∙ sym q.0, p.1 ∙ sym q.1)

pub write_i24_one : One write-i24.ended write-i24-reads.Post (λ κs s. s.0.now)
write_i24_one κs a r₁ r₂ s₁ s₂ p q = (p.0 ∙ sym q.0, p.1 ∙ sym q.1)

pub write_i32_one : One write-i32.ended write-i32-reads.Post (λ κs s. s.0.now)
write_i32_one κs a r₁ r₂ s₁ s₂ p q = (p.0 ∙ sym q.0, p.1 ∙ sym q.1)

pub write_i48_one : One write-i48.ended write-i48-reads.Post (λ κs s. s.0.now)
write_i48_one κs a r₁ r₂ s₁ s₂ p q = (p.0 ∙ sym q.0, p.1 ∙ sym q.1)

pub write_i64_one : One write-i64.ended write-i64-reads.Post (λ κs s. s.0.now)
write_i64_one κs a r₁ r₂ s₁ s₂ p q = (p.0 ∙ sym q.0, p.1 ∙ sym q.1)

pub write_i128_one : One write-i128.ended write-i128-reads.Post (λ κs s. s.0.now)
write_i128_one κs a r₁ r₂ s₁ s₂ p q = (p.0 ∙ sym q.0, p.1 ∙ sym q.1)

pub write_u8_one : One write-u8.ended write-u8-reads.Post (λ κs s. s.0.now)
write_u8_one κs a r₁ r₂ s₁ s₂ p q = (p.0 ∙ sym q.0, p.1 ∙ sym q.1)

pub write_u16_one : One write-u16.ended write-u16-reads.Post (λ κs s. s.0.now)
write_u16_one κs a r₁ r₂ s₁ s₂ p q = (p.0 ∙ sym q.0, p.1 ∙ sym q.1)

pub write_u24_one : One write-u24.ended write-u24-reads.Post (λ κs s. s.0.now)
write_u24_one κs a r₁ r₂ s₁ s₂ p q = (p.0 ∙ sym q.0, p.1 ∙ sym q.1)

pub write_u32_one : One write-u32.ended write-u32-reads.Post (λ κs s. s.0.now)
write_u32_one κs a r₁ r₂ s₁ s₂ p q = (p.0 ∙ sym q.0, p.1 ∙ sym q.1)

pub write_u48_one : One write-u48.ended write-u48-reads.Post (λ κs s. s.0.now)
write_u48_one κs a r₁ r₂ s₁ s₂ p q = (p.0 ∙ sym q.0, p.1 ∙ sym q.1)

pub write_u64_one : One write-u64.ended write-u64-reads.Post (λ κs s. s.0.now)
write_u64_one κs a r₁ r₂ s₁ s₂ p q = (p.0 ∙ sym q.0, p.1 ∙ sym q.1)

pub write_u128_one : One write-u128.ended write-u128-reads.Post (λ κs s. s.0.now)
write_u128_one κs a r₁ r₂ s₁ s₂ p q = (p.0 ∙ sym q.0, p.1 ∙ sym q.1)

pub write_to_one : One write-to.ended write-to-reads.Post (λ κs s. s.0.now)
write_to_one κs a r₁ r₂ s₁ s₂ p q = (p.0 ∙ sym q.0, p.1 ∙ sym q.1)

pub write_bytes_one : One write_bytes.ended write-bytes-reads.Post (λ κs s. s.0.now)
write_bytes_one κs a r₁ r₂ s₁ s₂ p q = (p.0 ∙ sym q.0, p.1 ∙ sym q.1)
