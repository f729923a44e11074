-- The definitions of the crate `polyline`.
pub mod Form
pub mod Step
pub mod Stages
pub mod Spots
pub mod Judged
pub mod Tracked
pub mod Read
pub mod Gone
pub mod Write
