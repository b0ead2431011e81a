use Rattle.segment_reader.specs.CallsLaws.{twelve-and-six-keep}
use Rattle.segment_reader.proofs.laws.range_and_moment_keep_the_reader.Goals as goal

pub returns : goal.returns
returns c = twelve-and-six-keep
