use Rattle.segment_reader.specs.EntriesLaws.{entries-next-one-answer}
use Rattle.segment_reader.proofs.laws.entries_have_one_answer.Goals as goal

pub returns : goal.returns
returns c = entries-next-one-answer
