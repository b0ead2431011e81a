use Rattle.segment_reader.specs.CallsLaws.{reads-agree}
use Rattle.segment_reader.proofs.laws.reads_agree.Goals as goal

pub returns : goal.returns
returns c = reads-agree
