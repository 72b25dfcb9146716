pub mod OverRange
pub mod NewDirectory
pub mod StrongestOf
pub mod ReadCells
pub mod Acting
pub mod Travelling
pub mod OneGranter
