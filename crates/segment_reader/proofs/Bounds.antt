-- The bounds of places, over plain variables: what the search is given.
use Rattle.std.proofs.Common.{◌≡◌, ◌≤◌, ℕ, true, sym, arith}
use Rattle.segment_reader.specs.State.{fit, open_of, Chunk}
use Rattle.segment_reader.specs.StateLaws.{fit-owes, open-owes}
use Rattle.segment_reader.specs.declared.Moment.TheVariants.{InChunk}
use Rattle.segment_reader.specs.declared.SegmentReader.{SegmentReader}

-- an open chunk's 02 lies no farther than the place
pub chunk_near : (r : SegmentReader) (size id mark n owed : ℕ) → fit r size ≡ true → r.moment ≡ InChunk id mark n owed → mark ≤ 8589934592
chunk_near r size id mark n owed f e = let z = fit-owes r size id mark n owed f e in omega arith

pub open_near : (r : SegmentReader) (size id mark n owed : ℕ) → Chunk id mark n owed ≡ open_of r size → mark ≤ 8589934592
open_near r size id mark n owed e = let z = open-owes r size id mark n owed (sym e) in omega arith
