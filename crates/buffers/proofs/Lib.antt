-- The laws of the crate `buffers`.
pub mod Fronts
pub mod Blanks
pub mod Filling
