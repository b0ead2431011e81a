use Rattle.okaywal_segment.specs.CarryLaws.{next-call}
use Rattle.okaywal_segment.specs.ReaderCarryLaws.{next-call as reader-next-call}
use Rattle.okaywal_segment.proofs.laws.the_next_call_sees_the_state.Goals as goal

pub returns : goal.returns
returns c = record {
  of_writers = next-call;
  of_readers = λ c state image answer bytes moving led n s a p z. reader-next-call c state image answer bytes moving led n s a p z;
}
