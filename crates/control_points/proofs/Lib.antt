-- The laws of the crate `control_points`.
pub mod Pairs
pub mod ByKind
pub mod Starts
pub mod Near
pub mod Steps
pub mod Coincide
pub mod Walks
pub mod Exactly
pub mod Readings
pub mod Ranges
pub mod Tracing
