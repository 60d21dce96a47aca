pub mod Choice
pub mod Kinds
pub mod Forms
pub mod Ways
pub mod Counters
pub mod Refusals
pub mod Values
pub mod Answers
