-- The words of the contracts. Definitions only.
pub mod Narrow
pub mod Digits
