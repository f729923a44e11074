-- The laws of the crate `makers_laws`.
pub mod Refusals
pub mod Tables
pub mod Alike
pub mod Built
pub mod Drawn
