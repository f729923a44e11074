-- The laws of the crate `told`.
pub mod Profiles
