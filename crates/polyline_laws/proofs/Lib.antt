-- The laws of the crate `polyline_laws`.
pub mod Forms
pub mod Passes
pub mod Places
pub mod Answers
pub mod Says
pub mod Legal
pub mod ReadWhen
pub mod Accepted
pub mod WriteWhen
pub mod Trips
pub mod AsBuilt
