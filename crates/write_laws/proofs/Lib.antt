-- The laws of the crate `write_laws`.
pub mod Accepts
pub mod Table
pub mod When
pub mod Words
pub mod Readings
