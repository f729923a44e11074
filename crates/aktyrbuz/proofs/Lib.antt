-- The laws of the crate `aktyrbuz`.
pub mod Numbers
pub mod Trace2Numbers
pub mod Calls
pub mod Readings
pub mod Demands
pub mod Requests
pub mod PointsTexts
pub mod ListCodes
pub mod ProfileNumbers
pub mod MakersNumbers
pub mod BandsNumbers
pub mod AcceptedBands
pub mod Bands
