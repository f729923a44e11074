-- The laws of the crate `trace2_laws`.
pub mod ReadWhen
pub mod WriteWhen
pub mod Trips
