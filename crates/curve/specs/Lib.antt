-- The definitions of the crate `curve`.
pub mod Points
pub mod Windows
pub mod Curved
pub mod Curve
pub mod Turns
