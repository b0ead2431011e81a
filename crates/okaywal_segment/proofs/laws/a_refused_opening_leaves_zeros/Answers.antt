use Rattle.okaywal_segment.specs.OpeningLaws.{refused-leaves-zeros, refused-is-ended}
use Rattle.okaywal_segment.proofs.laws.a_refused_opening_leaves_zeros.Goals as goal

pub returns : goal.returns
returns c = record { of_writers = refused-leaves-zeros; of_readers = refused-is-ended }
