pub mod Adding
pub mod Lines
pub mod Refusing
pub mod Results
pub mod Shown
