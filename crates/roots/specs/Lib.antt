-- The words of the contracts. Definitions only.
pub mod Root
pub mod RootBy
pub mod Length
