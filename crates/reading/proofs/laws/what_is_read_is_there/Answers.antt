use Rattle.reading.specs.Soundness.{sound}
use Rattle.reading.proofs.laws.what_is_read_is_there.Goals as goal

pub returns : goal.returns
returns c = sound
