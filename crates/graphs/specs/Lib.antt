pub mod Levels
pub mod Rows
pub mod Records
pub mod Meanings
