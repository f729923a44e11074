-- The laws of the crate `picture`.
pub mod Flat
pub mod Shown
pub mod Pixels
pub mod InRooms
pub mod Accepted
pub mod Tables
pub mod Listings
pub mod Keeping
pub mod Pictures
pub mod Makes
pub mod Owners
pub mod Skips
pub mod Sights
