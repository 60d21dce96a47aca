-- One result for each contract of `cast`, and one content of each lent buffer.
use Rattle.cast.specs.contracts.as_f32 as as_f32_rows
use Rattle.cast.proofs.as_f32.Reads as as-f32-reads
use Rattle.cast.specs.contracts.as_f64 as as-f64
use Rattle.cast.proofs.as_f64.Reads as as-f64-reads
use Rattle.cast.specs.contracts.as_float as as-float
use Rattle.cast.proofs.as_float.Reads as as-float-reads
use Rattle.cast.specs.contracts.as_i128 as as_i128_rows
use Rattle.cast.proofs.as_i128.Reads as as-i128-reads
use Rattle.cast.specs.contracts.as_i16 as as_i16_rows
use Rattle.cast.proofs.as_i16.Reads as as-i16-reads
use Rattle.cast.specs.contracts.as_i32 as as_i32_rows
use Rattle.cast.proofs.as_i32.Reads as as-i32-reads
use Rattle.cast.specs.contracts.as_i64 as as_i64_rows
use Rattle.cast.proofs.as_i64.Reads as as-i64-reads
use Rattle.cast.specs.contracts.as_i8 as as_i8_rows
use Rattle.cast.proofs.as_i8.Reads as as-i8-reads
use Rattle.cast.specs.contracts.as_u128 as as_u128_rows
use Rattle.cast.proofs.as_u128.Reads as as-u128-reads
use Rattle.cast.specs.contracts.as_u16 as as_u16_rows
use Rattle.cast.proofs.as_u16.Reads as as-u16-reads
use Rattle.cast.specs.contracts.as_u32 as as_u32_rows
use Rattle.cast.proofs.as_u32.Reads as as-u32-reads
use Rattle.cast.specs.contracts.as_u64 as as_u64_rows
use Rattle.cast.proofs.as_u64.Reads as as-u64-reads
use Rattle.cast.specs.contracts.as_u8 as as_u8_rows
use Rattle.cast.proofs.as_u8.Reads as as-u8-reads
use Rattle.cast.specs.contracts.equal as equal
use Rattle.cast.proofs.equal.Reads as equal-reads
use Rattle.cast.specs.contracts.from_i128 as from-i128
use Rattle.cast.proofs.from_i128.Reads as from-i128-reads
use Rattle.cast.specs.contracts.from_i16 as from-i16
use Rattle.cast.proofs.from_i16.Reads as from-i16-reads
use Rattle.cast.specs.contracts.from_i32 as from-i32
use Rattle.cast.proofs.from_i32.Reads as from-i32-reads
use Rattle.cast.specs.contracts.from_i64 as from-i64
use Rattle.cast.proofs.from_i64.Reads as from-i64-reads
use Rattle.cast.specs.contracts.from_i8 as from-i8
use Rattle.cast.proofs.from_i8.Reads as from-i8-reads
use Rattle.cast.specs.contracts.from_u128 as from-u128
use Rattle.cast.proofs.from_u128.Reads as from-u128-reads
use Rattle.cast.specs.contracts.from_u16 as from-u16
use Rattle.cast.proofs.from_u16.Reads as from-u16-reads
use Rattle.cast.specs.contracts.from_u32 as from-u32
use Rattle.cast.proofs.from_u32.Reads as from-u32-reads
use Rattle.cast.specs.contracts.from_u64 as from-u64
use Rattle.cast.proofs.from_u64.Reads as from-u64-reads
use Rattle.cast.specs.contracts.from_u8 as from-u8
use Rattle.cast.proofs.from_u8.Reads as from-u8-reads
use Rattle.cast.specs.contracts.is_zero as is_zero
use Rattle.cast.proofs.is_zero.Reads as is-zero-reads
use Rattle.cast.specs.contracts.wide_of_i64 as wide-of-i64
use Rattle.cast.proofs.wide_of_i64.Reads as wide-of-i64-reads
use Rattle.cast.specs.contracts.wide_of_u64 as wide-of-u64
use Rattle.cast.proofs.wide_of_u64.Reads as wide-of-u64-reads
use Rattle.promises.proofs.One.{One}
use mathlib.Core.Path.{◌∙◌, sym, refl}

pub is_zero_one : One is_zero.ended is-zero-reads.Post (λ κs s. tt {0})
is_zero_one κs a r₁ r₂ s₁ s₂ p q = (p ∙ sym q, refl)

pub equal_one : One equal.ended equal-reads.Post (λ κs s. tt {0})
equal_one κs a r₁ r₂ s₁ s₂ p q = (p ∙ sym q, refl)

pub as_i8_one : One as_i8_rows.ended as-i8-reads.Post (λ κs s. tt {0})
as_i8_one κs a r₁ r₂ s₁ s₂ p q = (p ∙ sym q, refl)

pub as_u8_one : One as_u8_rows.ended as-u8-reads.Post (λ κs s. tt {0})
as_u8_one κs a r₁ r₂ s₁ s₂ p q = (p ∙ sym q, refl)

pub as_i16_one : One as_i16_rows.ended as-i16-reads.Post (λ κs s. tt {0})
as_i16_one κs a r₁ r₂ s₁ s₂ p q = (p ∙ sym q, refl)

pub as_u16_one : One as_u16_rows.ended as-u16-reads.Post (λ κs s. tt {0})
as_u16_one κs a r₁ r₂ s₁ s₂ p q = (p ∙ sym q, refl)

pub as_i32_one : One as_i32_rows.ended as-i32-reads.Post (λ κs s. tt {0})
as_i32_one κs a r₁ r₂ s₁ s₂ p q = (p ∙ sym q, refl)

pub as_u32_one : One as_u32_rows.ended as-u32-reads.Post (λ κs s. tt {0})
as_u32_one κs a r₁ r₂ s₁ s₂ p q = (p ∙ sym q, refl)

pub as_i64_one : One as_i64_rows.ended as-i64-reads.Post (λ κs s. tt {0})
as_i64_one κs a r₁ r₂ s₁ s₂ p q = (p ∙ sym q, refl)

pub as_u64_one : One as_u64_rows.ended as-u64-reads.Post (λ κs s. tt {0})
as_u64_one κs a r₁ r₂ s₁ s₂ p q = (p ∙ sym q, refl)

pub as_i128_one : One as_i128_rows.ended as-i128-reads.Post (λ κs s. tt {0})
as_i128_one κs a r₁ r₂ s₁ s₂ p q = (p ∙ sym q, refl)

pub as_u128_one : One as_u128_rows.ended as-u128-reads.Post (λ κs s. tt {0})
as_u128_one κs a r₁ r₂ s₁ s₂ p q = (p ∙ sym q, refl)

pub as_f32_one : One as_f32_rows.ended as-f32-reads.Post (λ κs s. tt {0})
as_f32_one κs a r₁ r₂ s₁ s₂ p q = (p ∙ sym q, refl)

pub as_f64_one : One as-f64.ended as-f64-reads.Post (λ κs s. tt {0})
as_f64_one κs a r₁ r₂ s₁ s₂ p q = (p ∙ sym q, refl)

pub as_float_one : One as-float.ended as-float-reads.Post (λ κs s. tt {0})
as_float_one κs a r₁ r₂ s₁ s₂ p q = (p ∙ sym q, refl)

pub from_u8_one : One from-u8.ended from-u8-reads.Post (λ κs s. tt {0})
from_u8_one κs a r₁ r₂ s₁ s₂ p q = (p ∙ sym q, refl)

pub from_u16_one : One from-u16.ended from-u16-reads.Post (λ κs s. tt {0})
from_u16_one κs a r₁ r₂ s₁ s₂ p q = (p ∙ sym q, refl)

pub from_u32_one : One from-u32.ended from-u32-reads.Post (λ κs s. tt {0})
from_u32_one κs a r₁ r₂ s₁ s₂ p q = (p ∙ sym q, refl)

pub from_u64_one : One from-u64.ended from-u64-reads.Post (λ κs s. tt {0})
from_u64_one κs a r₁ r₂ s₁ s₂ p q = (p ∙ sym q, refl)

pub from_u128_one : One from-u128.ended from-u128-reads.Post (λ κs s. tt {0})
from_u128_one κs a r₁ r₂ s₁ s₂ p q = (p ∙ sym q, refl)

pub from_i8_one : One from-i8.ended from-i8-reads.Post (λ κs s. tt {0})
from_i8_one κs a r₁ r₂ s₁ s₂ p q = (p ∙ sym q, refl)

pub from_i16_one : One from-i16.ended from-i16-reads.Post (λ κs s. tt {0})
from_i16_one κs a r₁ r₂ s₁ s₂ p q = (p ∙ sym q, refl)

pub from_i32_one : One from-i32.ended from-i32-reads.Post (λ κs s. tt {0})
from_i32_one κs a r₁ r₂ s₁ s₂ p q = (p ∙ sym q, refl)

pub from_i64_one : One from-i64.ended from-i64-reads.Post (λ κs s. tt {0})
from_i64_one κs a r₁ r₂ s₁ s₂ p q = (p ∙ sym q, refl)

pub from_i128_one : One from-i128.ended from-i128-reads.Post (λ κs s. tt {0})
from_i128_one κs a r₁ r₂ s₁ s₂ p q = (p ∙ sym q, refl)

pub wide_of_i64_one : One wide-of-i64.ended wide-of-i64-reads.Post (λ κs s. tt {0})
wide_of_i64_one κs a r₁ r₂ s₁ s₂ p q = (p ∙ sym q, refl)

pub wide_of_u64_one : One wide-of-u64.ended wide-of-u64-reads.Post (λ κs s. tt {0})
wide_of_u64_one κs a r₁ r₂ s₁ s₂ p q = (p ∙ sym q, refl)
