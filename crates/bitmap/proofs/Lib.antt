pub mod Lists
pub mod ItemLaws
pub mod Held
pub mod Telling
pub mod Writing
pub mod RowLaws
pub mod TableLaws
