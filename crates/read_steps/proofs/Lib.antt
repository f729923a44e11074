-- The laws of the crate `read_steps`.
pub mod Numbers
pub mod Turns
