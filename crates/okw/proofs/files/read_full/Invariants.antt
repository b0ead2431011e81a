-- What has come lies within the image, and each read brings a byte or ends the loop.
use Rattle.std.proofs.Common.{◌-◌, ◌≤◌, length}
use Rattle.okw.proofs.files.read_full.Given as goal

abbrev pub invariant-loop-size : goal.invariant-loop-size
invariant-loop-size l = l.size ≤ length l.image

abbrev pub decreases-loop-size : goal.decreases-loop-size
decreases-loop-size l = length l.image - l.size
