pub mod Questions
pub mod Faults
pub mod Records
pub mod Cut
pub mod Going
pub mod Writing
