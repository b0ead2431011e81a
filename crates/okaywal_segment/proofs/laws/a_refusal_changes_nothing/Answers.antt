use Rattle.okaywal_segment.specs.CrossingLaws.{refusal-changes-nothing}
use Rattle.okaywal_segment.specs.ReaderCrossingLaws.{refusal-changes-nothing as reader-refusal}
use Rattle.okaywal_segment.proofs.laws.a_refusal_changes_nothing.Goals as goal

pub returns : goal.returns
returns c = record { of_writers = refusal-changes-nothing; of_readers = reader-refusal }
