use Rattle.journal.proofs.CutsDoNotShowHolds.{two_runs}
use Rattle.journal.proofs.laws.cuts_and_staging_do_not_show.Goals as goal

pub returns : goal.returns
returns c = two_runs
