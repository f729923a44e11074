-- The definitions of the crate `faint`.
pub mod Faint
