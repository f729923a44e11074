-- The definitions of the crate `eights`.
pub mod Eights
