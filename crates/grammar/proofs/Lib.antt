pub mod Lookup
pub mod Bodies
pub mod Tails
