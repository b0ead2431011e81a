use Rattle.journal.specs.CasesHold.{cases-hold}
use Rattle.journal.proofs.laws.cases_hold.Goals as goal

pub returns : goal.returns
returns c = cases-hold
