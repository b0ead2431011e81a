use Rattle.log_file.specs.OpeningLaws.{blank-refused}
use Rattle.log_file.proofs.laws.blank_is_refused.Goals as goal

pub returns : goal.returns
returns c = blank-refused
