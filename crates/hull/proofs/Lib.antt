-- The laws of the crate `hull`.
pub mod Hulls
pub mod Reaches
pub mod Refusals
pub mod Alike
