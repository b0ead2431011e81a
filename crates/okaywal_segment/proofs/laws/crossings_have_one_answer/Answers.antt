use Rattle.okaywal_segment.specs.CrossingLaws.{one_answer}
use Rattle.okaywal_segment.specs.ReaderCrossingLaws.{one_answer as one_answer_read}
use Rattle.okaywal_segment.proofs.laws.crossings_have_one_answer.Goals as goal

pub returns : goal.returns
returns c = record { of_writers = one_answer; of_readers = one_answer_read }
