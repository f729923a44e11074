-- The laws of the crate `couples`.
pub mod Couples
