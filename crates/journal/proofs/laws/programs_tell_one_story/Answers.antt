use Rattle.journal.specs.TwoRuns.{one-story}
use Rattle.journal.proofs.laws.programs_tell_one_story.Goals as goal

pub returns : goal.returns
returns c = one-story
