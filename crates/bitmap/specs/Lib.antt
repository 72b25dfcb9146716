pub mod Layout
pub mod Items
pub mod Tables
pub mod Objects
