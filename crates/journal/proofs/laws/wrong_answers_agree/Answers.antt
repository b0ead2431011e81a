use Rattle.journal.specs.WrongProgramsAgree.{fixed-answer-agrees}
use Rattle.journal.proofs.CutsDoNotShowHolds.{stores-nothing-agrees}
use Rattle.journal.proofs.laws.wrong_answers_agree.Goals as goal

pub returns : goal.returns
returns c = (fixed-answer-agrees, stores-nothing-agrees)
