-- The definitions of the crate `reader`.
pub mod Read
pub mod Rest
pub mod Refusals
