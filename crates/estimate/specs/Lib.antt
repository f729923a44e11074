-- The definitions of the crate `estimate`.
pub mod Estimate
pub mod ByKind
