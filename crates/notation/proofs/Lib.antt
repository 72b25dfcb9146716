pub mod ComposeLaws
pub mod Heads
pub mod ListLaws
pub mod Showing
pub mod Splitting
pub mod Stating
pub mod Visible
