-- The laws of the crate `stored`.
pub mod Patterns
pub mod Begun
