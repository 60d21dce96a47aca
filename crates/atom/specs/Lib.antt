pub mod Charges
pub mod Atoms
