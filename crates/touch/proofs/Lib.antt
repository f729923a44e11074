-- The laws of the crate `touch`.
pub mod Pixels
pub mod Marks
pub mod Orders
pub mod Least
pub mod Exactly
