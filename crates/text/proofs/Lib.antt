-- The laws of the crate `text`.
pub mod Bytes
pub mod Reading
pub mod Lines
