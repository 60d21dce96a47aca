pub mod Formats
pub mod Conversions
pub mod Floats
