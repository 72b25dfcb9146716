pub mod Ranges
pub mod Faults
pub mod Answers
