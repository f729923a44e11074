-- The laws of the crate `trace_laws`.
pub mod Lent
pub mod Clean
pub mod Back
pub mod Trips
pub mod Firsts
pub mod BehindWhen
pub mod ReadWhen
pub mod PutWhen
pub mod WriteWhen
pub mod Readings
