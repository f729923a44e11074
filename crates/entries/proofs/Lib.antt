-- The laws of the crate `entries`.
pub mod Entries
