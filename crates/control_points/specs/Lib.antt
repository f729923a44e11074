-- The definitions of the crate `control_points`.
pub mod Answers
pub mod ControlPoints
pub mod ByKind
pub mod Asked
pub mod Refusals
