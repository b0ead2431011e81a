use Rattle.journal.specs.BackFromBytes.{back-from-bytes}
use Rattle.journal.proofs.laws.back_from_bytes.Goals as goal

pub returns : goal.returns
returns c = back-from-bytes
