use Rattle.segment_reader.specs.LedLaws.{opened-stays}
use Rattle.segment_reader.proofs.laws.opened_stays_in_range.Goals as goal

pub returns : goal.returns
returns c = opened-stays
