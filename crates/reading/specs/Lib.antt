-- What stands in an image, a whole reading of it, and the round trip.
pub mod Reading
pub mod ReadingLaws
pub mod NumberLaws
pub mod WholeReading
pub mod Yielded
pub mod WholeReadingLaws
pub mod RoundTripLaws
pub mod RoundTrip
pub mod Soundness
pub mod Shapes
pub mod Laws
