-- The definitions of the crate `stored`.
pub mod Stored
