-- The definitions of the crate `roundtrip`.
pub mod Enough
