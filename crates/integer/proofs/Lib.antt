pub mod Arms
pub mod Ends
pub mod Answers
pub mod Counts
pub mod RoundTrip
