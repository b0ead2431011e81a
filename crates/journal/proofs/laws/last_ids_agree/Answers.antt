use Rattle.journal.proofs.CutsDoNotShowHolds.{last-ids-agree}
use Rattle.journal.proofs.laws.last_ids_agree.Goals as goal

pub returns : goal.returns
returns c = last-ids-agree
