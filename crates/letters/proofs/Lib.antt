pub mod Letters
pub mod Counting
pub mod Largest
