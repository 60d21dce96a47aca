pub mod Variants
pub mod Casts
pub mod Conversions
pub mod Froms
