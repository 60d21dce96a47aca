pub mod Integral
pub mod Steps
