-- The laws of the crate `polyline`.
pub mod Tracks
pub mod Capped
pub mod Digits
