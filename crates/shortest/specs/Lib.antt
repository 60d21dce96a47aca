pub mod Meanings
pub mod Forms
pub mod Checks
pub mod Steps
