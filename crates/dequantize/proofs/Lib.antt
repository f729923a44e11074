-- The laws of the crate `dequantize`.
pub mod Tables
pub mod Judging
pub mod Accepted
pub mod Judgement
pub mod Readings
pub mod AreaLimit
pub mod Refusals
