-- The definitions of the crate `ends`.
pub mod Ends
