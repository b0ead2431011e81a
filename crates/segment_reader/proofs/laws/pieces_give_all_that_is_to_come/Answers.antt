use Rattle.segment_reader.specs.CutsLaws.{read-to-end}
use Rattle.segment_reader.proofs.laws.pieces_give_all_that_is_to_come.Goals as goal

pub returns : goal.returns
returns c = read-to-end
