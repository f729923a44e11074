-- The laws of the crate `profile_laws`.
pub mod Tests
pub mod Splines
pub mod Says
pub mod Editions
pub mod Builds
