-- The laws of the crate `placing`.
pub mod Counts
