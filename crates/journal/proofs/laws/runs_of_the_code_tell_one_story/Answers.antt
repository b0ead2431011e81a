use Rattle.journal.proofs.CutsDoNotShowHolds.{two-runs-of-the-code}
use Rattle.journal.proofs.laws.runs_of_the_code_tell_one_story.Goals as goal

pub returns : goal.returns
returns c = two-runs-of-the-code
