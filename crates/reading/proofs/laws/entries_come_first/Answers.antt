use Rattle.reading.specs.RoundTrip.{entries-come-first}
use Rattle.reading.proofs.laws.entries_come_first.Goals as goal

pub returns : goal.returns
returns c = entries-come-first
