use Rattle.segment_reader.specs.CutsLaws.{one-read-ends}
use Rattle.segment_reader.proofs.laws.one_read_ends.Goals as goal

pub returns : goal.returns
returns c = one-read-ends
