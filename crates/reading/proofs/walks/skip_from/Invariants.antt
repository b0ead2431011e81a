-- Skipping from the start is skipping from here.
use Rattle.std.proofs.Common.{◌≡◌, ◌-◌, length}
use Rattle.reading.specs.Reading.{skip}
use Rattle.reading.proofs.walks.skip_from.Given as goal

abbrev pub invariant-loop-length : goal.invariant-loop-length
invariant-loop-length l = skip l.image l.from ≡ skip l.image l.place

abbrev pub decreases-loop-length : goal.decreases-loop-length
decreases-loop-length l = length l.image - l.place
