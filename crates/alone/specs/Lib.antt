-- The definitions of the crate `alone`.
pub mod Alone
