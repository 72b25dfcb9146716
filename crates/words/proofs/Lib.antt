pub mod Cuts
pub mod Joins
