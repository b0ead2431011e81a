use Rattle.log_file.specs.CallsLaws.{refused-keeps}
use Rattle.log_file.proofs.laws.refused_calls_change_nothing.Goals as goal

pub returns : goal.returns
returns c = refused-keeps
