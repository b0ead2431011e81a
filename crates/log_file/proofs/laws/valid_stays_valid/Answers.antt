use Rattle.log_file.specs.CallsLaws.{valid-stays}
use Rattle.log_file.proofs.laws.valid_stays_valid.Goals as goal

pub returns : goal.returns
returns c = valid-stays
