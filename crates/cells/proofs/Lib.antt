pub mod Records
pub mod Found
pub mod PairCounts
pub mod Fronts
pub mod Room
pub mod Telling
pub mod Changes
pub mod Counted
