pub mod Header
pub mod Signature
