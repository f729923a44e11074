-- The definitions of the crate `read_steps`.
pub mod Steps
