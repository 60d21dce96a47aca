pub mod Letters
pub mod Joins
pub mod Parts
