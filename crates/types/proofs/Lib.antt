pub mod Ways
pub mod Counters
pub mod Specials
pub mod Forms
pub mod Values
pub mod Answers
pub mod Arms
