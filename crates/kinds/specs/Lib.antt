-- The words of the contracts. Definitions only.
pub mod Kind
