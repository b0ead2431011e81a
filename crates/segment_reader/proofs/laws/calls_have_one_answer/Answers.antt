use Rattle.segment_reader.proofs.OneAnswers.{calls_one}
use Rattle.segment_reader.proofs.laws.calls_have_one_answer.Goals as goal

pub returns : goal.returns
returns c = calls_one
