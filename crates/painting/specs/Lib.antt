-- The definitions of the crate `painting`.
pub mod Segmented
pub mod Painting
pub mod Segments
