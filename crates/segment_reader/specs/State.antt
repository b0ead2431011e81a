-- The reader's state (document 01, "Ranges (12)"): which states are refused, where a call begins once an open chunk is left, and the chunk that a call
-- needs. The laws are in `StateLaws`.
use Rattle.std.specs.Prelude.{Bool, true, cond, ◌&&◌, ℕ, ◌+◌, ◌-◌, ◌^◌, leb, eqb}
use Rattle.entry.specs.Format.{largest_image}
use Rattle.segment_reader.specs.declared.Moment.{Moment}
use Rattle.segment_reader.specs.declared.Moment.TheVariants.{Between, InEntry, InChunk, Ended}
use Rattle.segment_reader.specs.declared.SegmentReader.{SegmentReader}

-- in a chunk: owed does not exceed n, and the 02's offset + 5 + n - owed is the place
unfoldable pub stands_at : (mark n owed place : ℕ) → Bool
stands_at mark n owed place = leb owed n && eqb (mark + 5 + (n - owed)) place

unfoldable pub in_place : Moment → (place : ℕ) → Bool
in_place Between place = true
in_place (InEntry id) place = true
in_place (InChunk id mark n owed) place = stands_at mark n owed place
in_place Ended place = true

-- the state is one for an image of this size: else 12
unfoldable pub fit : SegmentReader → (size : ℕ) → Bool
fit r size = leb size largest_image && eqb r.size size && leb r.place (2 ^ 33) && in_place r.moment r.place

-- where a call for an entry, a chunk or a whole entry begins: not at all, since the state is not fit; the reading is over; no entry is current; in one
pub data Start : Type 0 where
  Unfit Over Idle : Start
  Current : (id place : ℕ) → Start

-- these calls first leave an open chunk: the place is its 02 + 9 + n
unfoldable pub leaving : Moment → (place : ℕ) → Start
leaving Between place = Idle
leaving (InEntry id) place = Current id place
leaving (InChunk id mark n owed) place = Current id (mark + 9 + n)
leaving Ended place = Over

unfoldable pub start_of : SegmentReader → (size : ℕ) → Start
start_of r size = cond (fit r size) (leaving r.moment r.place) Unfit

-- the open chunk that a call needs, or the number of its refusal
pub data Open : Type 0 where
  Refused : (number' : ℕ) → Open
  Chunk : (id mark n owed : ℕ) → Open

-- 12, or 6
unfoldable pub holding : Moment → Open
holding Between = Refused 6
holding (InEntry id) = Refused 6
holding (InChunk id mark n owed) = Chunk id mark n owed
holding Ended = Refused 6

unfoldable pub open_of : SegmentReader → (size : ℕ) → Open
open_of r size = cond (fit r size) (holding r.moment) (Refused 12)
