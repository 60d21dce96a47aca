pub mod Le
pub mod Twos
pub mod Counts
