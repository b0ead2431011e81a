use Rattle.segment_reader.specs.DriverLaws.{read-segment-one-answer}
use Rattle.segment_reader.proofs.laws.survey_has_one_answer.Goals as goal

pub returns : goal.returns
returns c = read-segment-one-answer
