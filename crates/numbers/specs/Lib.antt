-- The words of the contracts. Definitions only.
pub mod Arith
pub mod Magnitude
pub mod Saturating
