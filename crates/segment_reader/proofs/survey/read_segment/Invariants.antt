-- What is answered is what was met and noted so far, and the reading from here on.
use Rattle.std.proofs.Common.{◌≡◌, ◌-◌, length}
use Rattle.segment_reader.proofs.Going.{Going}
use Rattle.segment_reader.proofs.survey.read_segment.Given as goal

abbrev pub invariant-loop-entry : goal.invariant-loop-entry
invariant-loop-entry l = (l.entries.reader.image.now ≡ l.image) × Going l.file_id l.image l.fn.list l.list l.entries.reader.state l.met l.complete

abbrev pub decreases-loop-entry : goal.decreases-loop-entry
decreases-loop-entry l = length l.image - l.entries.reader.state.place
