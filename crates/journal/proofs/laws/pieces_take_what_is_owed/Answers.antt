use Rattle.journal.specs.StoriesLaws.{piece-count}
use Rattle.journal.proofs.laws.pieces_take_what_is_owed.Goals as goal

pub returns : goal.returns
returns c = piece-count
