-- The laws of the crate `write_steps`.
pub mod Values
pub mod Stores
