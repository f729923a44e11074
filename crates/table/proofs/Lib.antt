-- The laws of the crate `table`.
pub mod Placing
pub mod InRooms
pub mod Users
pub mod Segments
pub mod Readings
