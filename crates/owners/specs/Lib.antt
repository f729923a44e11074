-- The definitions of the crate `owners`.
pub mod Owners
