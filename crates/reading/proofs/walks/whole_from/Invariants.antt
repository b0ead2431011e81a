-- Reading from the start is the chunks counted, and reading from here.
use Rattle.std.proofs.Common.{◌≡◌, ◌-◌, ◌≤◌, length}
use Rattle.reading.specs.Reading.{whole}
use Rattle.reading.proofs.Count.{plus}
use Rattle.reading.proofs.walks.whole_from.Given as goal

abbrev pub invariant-loop-length : goal.invariant-loop-length
invariant-loop-length l = (l.chunks ≤ l.place) × (whole l.image l.from ≡ plus l.chunks (whole l.image l.place))

abbrev pub decreases-loop-length : goal.decreases-loop-length
decreases-loop-length l = length l.image - l.place
