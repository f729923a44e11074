-- The definitions of the crate `buffers`.
pub mod Onto
pub mod Padded
