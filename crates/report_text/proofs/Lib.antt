pub mod Decimals
pub mod Ends
pub mod Bound
pub mod Examples
