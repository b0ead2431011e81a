use Rattle.journal.specs.TwoRuns.{openings-of-the-code}
use Rattle.journal.proofs.laws.openings_answer_alike.Goals as goal

pub returns : goal.returns
returns c = openings-of-the-code
