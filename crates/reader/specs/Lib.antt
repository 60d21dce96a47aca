pub mod Parts
pub mod Strings
pub mod Raw
