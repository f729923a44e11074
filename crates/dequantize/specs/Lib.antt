-- The definitions of the crate `dequantize`.
pub mod Limits
pub mod Coefficients
pub mod Answers
pub mod Dequantize
pub mod Asked
pub mod Judge
pub mod Refusals
