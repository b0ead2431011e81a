-- A copy from the first place on; the state that words tell; how calls come out.
pub mod Storing
pub mod Ranges
pub mod Ways
pub mod Starting
pub mod PositionWays
pub mod ReaderRanges
pub mod ReaderWays
pub mod OpeningWays
