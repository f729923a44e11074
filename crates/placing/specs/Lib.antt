-- The definitions of the crate `placing`.
pub mod Rows
pub mod Steps
