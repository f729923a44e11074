-- The laws of the crate `decimal`.
pub mod Backs
