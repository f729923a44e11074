-- The laws of the crate `pixels`.
pub mod Strips
