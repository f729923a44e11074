-- The laws of the crate `shape`.
pub mod Shape
