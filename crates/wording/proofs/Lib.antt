pub mod Turns
pub mod Numbers
pub mod Spelling
pub mod Fits
pub mod Good
pub mod Laws
