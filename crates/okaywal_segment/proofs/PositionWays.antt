-- A way out of the function that reads a position, over plain variables: an answer that is too short.
use Rattle.std.proofs.Common.{List, ℕ, ◌<◌, length, lt-ltb}
use Rattle.okaywal_segment.specs.Positions.{PositionReadAllows}

pub too_short : (buffer answer : List ℕ) → length answer < 4 → PositionReadAllows buffer answer 12 answer
too_short buffer answer h = rw (lt-ltb (length answer) 4 h)
