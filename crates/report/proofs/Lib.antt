pub mod Places
pub mod Ends
