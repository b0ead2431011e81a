use Rattle.segment_reader.specs.PromisesLaws.{number-by}
use Rattle.segment_reader.proofs.laws.refusals_have_their_numbers.Goals as goal

pub returns : goal.returns
returns c = number-by
