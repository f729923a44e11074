-- The definitions of the crate `segments`.
pub mod Segment
pub mod Ranges
pub mod Bounds
pub mod Expressions
pub mod Spot
