-- The laws of the crate `singles`.
pub mod Singles
