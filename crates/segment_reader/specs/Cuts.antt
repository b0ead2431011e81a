-- A chunk read in pieces: reads of any asked sizes, 0 too, with CRC checks between. The law that the cutting does not show is in `CutsLaws`.
use Rattle.std.specs.Prelude.{List, [], ◌∷◌, ◌++◌, map, ◌≡◌, ℕ, min, length}
use Rattle.segment_reader.specs.State.{open_of, Open, Refused, Chunk}
use Rattle.segment_reader.specs.Calls.{present, read_bytes, Call, data_read, crc_check, read_by, after}
use Rattle.segment_reader.specs.declared.SegmentReader.{SegmentReader}

pub data Piece : Type 0 where
  ask : (asked : ℕ) → Piece
  check : Piece

-- each piece is a call
unfoldable pub call_of : Piece → Call
call_of (ask k) = data_read k
call_of check = crc_check

-- the state after the pieces
abbrev pub read_to : List Piece → SegmentReader → List ℕ → SegmentReader
read_to ps r image = after (map call_of ps) r image

-- the bytes that a piece hands out, and all of them in order
unfoldable pub bytes_of : Piece → SegmentReader → List ℕ → List ℕ
bytes_of (ask k) r image = read_bytes r image k
bytes_of check r image = []

unfoldable pub gathered : List Piece → SegmentReader → List ℕ → List ℕ
gathered [] r image = []
gathered (p ∷ ps) r image = bytes_of p r image ++ gathered ps (read_by (call_of p) r image).reader image

-- how many bytes of the open chunk are still to be had: owed and present
unfoldable pub to_come : SegmentReader → List ℕ → Open → ℕ
to_come r image (Refused n) = 0
to_come r image (Chunk id mark n owed) = min owed (present r.place image)

-- read to its end: nothing is owed, or nothing more is present
abbrev pub ReadOut : SegmentReader → List ℕ → Type 0
ReadOut r image = to_come r image (open_of r (length image)) ≡ 0
