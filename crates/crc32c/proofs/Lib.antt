-- For the code: a sum is a fold; the same sum byte by byte; for `laws`. Then the examples of RFC 3720, computed.
pub mod Folds
pub mod Turns
pub mod Sums
pub mod Vectors
