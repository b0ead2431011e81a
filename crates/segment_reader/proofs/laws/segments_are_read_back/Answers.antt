use Rattle.segment_reader.specs.ReadBack.{read_back}
use Rattle.segment_reader.proofs.laws.segments_are_read_back.Goals as goal

pub returns : goal.returns
returns c = read_back
