use Rattle.segment_reader.proofs.OneAnswers.{thin_reader_one}
use Rattle.segment_reader.proofs.laws.thin_reader_has_one_answer.Goals as goal

pub returns : goal.returns
returns c = thin_reader_one
