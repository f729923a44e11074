-- The definitions of the crate `write_steps`.
pub mod Steps
