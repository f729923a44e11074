-- The definitions of the crate `picture`.
pub mod Picture
pub mod Owners
pub mod Sights
