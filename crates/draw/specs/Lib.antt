-- The definitions of the crate `draw`.
pub mod DrawAnswer
pub mod Draw
pub mod Refusals
pub mod Keeps
pub mod Parts
pub mod Image
