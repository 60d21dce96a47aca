pub mod Levels
pub mod Wrote
pub mod Ends
pub mod Words
pub mod Others
