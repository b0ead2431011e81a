use Rattle.journal.specs.CommittedLaws.{committed-segment}
use Rattle.journal.proofs.laws.images_hold_the_segment.Goals as goal

pub returns : goal.returns
returns c = committed-segment
