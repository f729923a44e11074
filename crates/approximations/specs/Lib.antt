-- The words of the contracts. Definitions only.
pub mod Cos
pub mod Erf
pub mod Ln
