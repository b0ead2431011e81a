-- The bounds of places, a count of chunks, and the theorems on a few bytes.
pub mod Bounds
pub mod Count
pub mod RoundTripExamples
