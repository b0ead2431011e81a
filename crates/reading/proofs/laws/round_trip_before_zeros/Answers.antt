use Rattle.reading.specs.RoundTrip.{round-trip-zeros}
use Rattle.reading.proofs.laws.round_trip_before_zeros.Goals as goal

pub returns : goal.returns
returns c = round-trip-zeros
