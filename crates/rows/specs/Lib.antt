-- The definitions of the crate `rows`.
pub mod Listed
pub mod Rows
pub mod Steps
