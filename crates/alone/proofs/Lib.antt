-- The laws of the crate `alone`.
pub mod Alone
