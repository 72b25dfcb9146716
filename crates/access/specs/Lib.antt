pub mod Masters
pub mod Reaching
pub mod RoleByRole
pub mod Giving
pub mod Between
