pub mod Answers
pub mod Numbers
pub mod Ends
pub mod Back
pub mod Forward
pub mod Agree
pub mod Placed
