-- The laws of the crate `roundtrip`.
pub mod RoundTrip
