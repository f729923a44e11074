-- The laws of the crate `shade`.
pub mod Edits
pub mod Erfs
