-- The definitions of the crate `bands_laws`.
pub mod Done
pub mod Summaries
