use Rattle.segment_reader.specs.EndedLaws.{led-ends}
use Rattle.segment_reader.proofs.laws.ended_stays_ended.Goals as goal

pub returns : goal.returns
returns c = led-ends
