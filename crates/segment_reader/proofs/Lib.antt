-- The bounds of places, and a whole reading under way; cases on a few bytes. Last, a walk over a function's operations for each kind of call on the thin
-- reader by value, over any callee, without a number and with one, on a reader and on one put together for it: no function's proof cites them, since the
-- search proves each.
pub mod Bounds
pub mod Halves
pub mod Returns
pub mod Openings
pub mod Entered
pub mod Going
pub mod Ahead
pub mod Examples
pub mod OneAnswers
pub mod HeldExamples
pub mod Taken
pub mod Asked
pub mod Anew
pub mod AnewAsked
