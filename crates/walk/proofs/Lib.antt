-- The laws of the crate `walk`.
pub mod Reaches
pub mod Walking
pub mod Fuel
pub mod Answers
pub mod Readings
