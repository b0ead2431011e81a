-- How a call comes out, and what an accepted one finds; the row of an opening in two parts; that a shown writer's answers are its history's; last, the
-- cases of document 01, computed.
pub mod Outcomes
pub mod Rooms
pub mod Landings
pub mod Openings
pub mod ShowsTells
pub mod Examples
