-- The laws of the crate `ieee754`.
pub mod Grid
pub mod Values
pub mod NearestEven
pub mod Nearness
pub mod OneNearest
pub mod Hypot
pub mod WholeParts
pub mod Conversions
pub mod Ieee754
pub mod Readings
