-- The definitions of the crate `bands`.
pub mod Bands
pub mod BandsAnswer
pub mod Calls
pub mod Refusals
