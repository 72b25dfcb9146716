pub mod World
pub mod Deeds
pub mod Asking
pub mod Steps
pub mod Lasting
pub mod Withdrawing
pub mod Laws
