pub mod Clamps
pub mod Wholes
pub mod Integrals
