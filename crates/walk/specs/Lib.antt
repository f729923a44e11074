-- The definitions of the crate `walk`.
pub mod Walked
pub mod Walk
