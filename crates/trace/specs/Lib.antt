-- The definitions of the crate `trace`.
pub mod Trace
pub mod Read
pub mod Write
