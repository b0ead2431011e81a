use Rattle.reading.specs.RoundTrip.{round_trip}
use Rattle.reading.proofs.laws.round_trip.Goals as goal

pub returns : goal.returns
returns c = round_trip
