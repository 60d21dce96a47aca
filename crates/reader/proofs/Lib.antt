pub mod Strings
pub mod Parts
pub mod Ends
pub mod Delivered
