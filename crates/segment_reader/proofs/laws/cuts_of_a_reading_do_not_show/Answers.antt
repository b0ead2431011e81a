use Rattle.segment_reader.specs.CutsLaws.{cuts-do-not-show}
use Rattle.segment_reader.proofs.laws.cuts_of_a_reading_do_not_show.Goals as goal

pub returns : goal.returns
returns c = cuts-do-not-show
