-- The laws of the crate `list`.
pub mod Signed
pub mod Buffers
pub mod Accepted
pub mod Written
pub mod RoundTrip
