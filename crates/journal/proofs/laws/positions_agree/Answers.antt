use Rattle.journal.proofs.CutsDoNotShowHolds.{positions-agree}
use Rattle.journal.proofs.laws.positions_agree.Goals as goal

pub returns : goal.returns
returns c = positions-agree
