use Rattle.journal.specs.WrongProgramsFall.{refuses-everything-falls, refuses-every-call-falls, fixed-answer-falls, stores-nothing-falls, stages-only-first-falls, made-up-count-falls}
use Rattle.journal.proofs.laws.wrong_programs_fall.Goals as goal

pub returns : goal.returns
returns c =
    (refuses-everything-falls, refuses-every-call-falls, fixed-answer-falls, stores-nothing-falls, stages-only-first-falls, made-up-count-falls)
