-- The definitions of the crate `trace2`.
pub mod Editions
pub mod Read
pub mod Write
