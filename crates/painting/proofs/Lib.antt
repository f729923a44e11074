-- The laws of the crate `painting`.
pub mod Painting
pub mod Rooms
pub mod Segments
