-- The definitions of the crate `told`.
pub mod Told
