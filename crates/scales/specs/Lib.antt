pub mod Five
pub mod Two
