-- The laws of the crate `estimate`.
pub mod Greater
pub mod Sums
pub mod ByKind
