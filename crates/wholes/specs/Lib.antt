-- The words of the contracts. Definitions only.
pub mod Whole
pub mod Small
