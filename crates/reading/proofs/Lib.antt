pub mod Asking
pub mod Cuts
pub mod Covering
