-- Storing the zeros that are left behind those that are stored comes to storing them all. The measure is how many are left.
use Rattle.std.proofs.Common.{◌≡◌, ◌+◌, ◌-◌, ◌≤◌, replicate}
use Rattle.lists.specs.Lay.{lay}
use Rattle.buffered.proofs.clear_by.Given as goal

abbrev pub invariant-loop-i : goal.invariant-loop-i
invariant-loop-i l = (l.i ≤ l.count) × (lay l.image (l.at + l.i) (replicate (l.count - l.i) 0) ≡ lay l.fn.image l.at (replicate l.count 0))

abbrev pub decreases-loop-i : goal.decreases-loop-i
decreases-loop-i l = l.count - l.i
