-- The definitions of the crate `shape`.
pub mod Shape
pub mod Description
