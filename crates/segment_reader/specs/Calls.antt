-- What each call of a reader answers and the state afterwards (document 01, "The reader"): plain functions of the state and the image's bytes, over
-- `State` and `Reading`. A call is refused with 12 first, then 6, then the rest; 12 and 6 keep the whole state. The promises of the code are in
-- `Promises`, the laws in `CallsLaws`.
use Rattle.std.specs.Prelude.{Bool, true, false, cond, List, [], ◌∷◌, ℕ, ◌+◌, ◌-◌, min, length, leb, eqb}
use Rattle.lists.specs.Answers.{Answer, accepted, refused}
use Rattle.lists.specs.Stream.{part}
use Rattle.entry.specs.Format.{largest_image}
use Rattle.reading.specs.Reading.{Mark, chunk, cut, close, other, standing, header_cut, body_cut, fits, matches, Skipped, at, broken, skip, Whole, complete, aborted, cut_off, wrong_sum, whole, left, Lead, entry, none, lead, Opened, opens, refuses, opened}
use Rattle.segment_reader.specs.State.{fit, start_of, open_of, Start, Unfit, Over, Idle, Current, Open, Refused, Chunk}
use Rattle.segment_reader.specs.declared.Moment.{Moment}
use Rattle.segment_reader.specs.declared.Moment.TheVariants.{Between, InEntry, InChunk, Ended}
use Rattle.segment_reader.specs.declared.SegmentReader.{SegmentReader}
use Rattle.entry.specs.declared.CutPart.{CutPart}
use Rattle.entry.specs.declared.CutPart.TheVariants.{Header, Data, Crc}
use Rattle.entry.specs.declared.ChunkCut.{ChunkCut}
use Rattle.reading.specs.declared.walks.Next.{Next}
use Rattle.reading.specs.declared.walks.Next.TheVariants.{Seek, Pass}

-- ---- answers: the values reported; a chunk that is cut; another refusal

pub data Reply : Type 0 where
  told : (values : List ℕ) → Reply
  cut_short : ChunkCut → Reply
  refusal : (number' : ℕ) → Reply

-- document 01's number of a cut
unfoldable pub cut_number : CutPart → ℕ
cut_number Header = 9
cut_number Data = 9
cut_number Crc = 9

-- document 01's answer
unfoldable pub answer_of : Reply → Answer
answer_of (told values) = accepted values
answer_of (cut_short c) = refused (cut_number c.part)
answer_of (refusal n) = refused n

pub record Step : Type 0 where
  pub reader : SegmentReader
  pub reply : Reply

abbrev pub step : SegmentReader → Reply → Step
step r a = record { reader = r; reply = a }

-- ---- the reader elsewhere

abbrev pub placed : SegmentReader → (place valid : ℕ) → Moment → SegmentReader
placed r p v m =
    record {
      file_id = r.file_id;
      size = r.size;
      version_info_length = r.version_info_length;
      place = p;
      valid_until = v;
      moment = m;
    }

-- `valid_until` stays
abbrev pub moved : SegmentReader → (place : ℕ) → Moment → SegmentReader
moved r p m = placed r p r.valid_until m

-- after the entry id, or a part of it: `left` of `Reading` says whether it is still current
unfoldable pub resting : SegmentReader → (id : ℕ) → Next → SegmentReader
resting r id (Pass q) = moved r q (InEntry id)
resting r id (Seek q) = moved r q Between

-- ---- opening: refused with 12, 1, 2, 3, 1; a refused opening hands back a state of zeros, ended

abbrev pub zeros : SegmentReader
zeros = record { file_id = 0; size = 0; version_info_length = 0; place = 0; valid_until = 0; moment = Ended }

unfoldable pub opened_with : (file : ℕ) → List ℕ → Opened → Step
opened_with file image (opens v) =
    step
    (record { file_id = file; size = length image; version_info_length = v; place = 5 + v; valid_until = 5 + v; moment = Between })
    (told [])
opened_with file image (refuses n) = step zeros (refusal n)

unfoldable pub new : (file : ℕ) → List ℕ → Step
new file image = cond (leb (length image) largest_image) (opened_with file image (opened image)) (step zeros (refusal 12))

-- ---- next entry: what is left of a current one is skipped; then `valid_until` becomes the place, and nine bytes are read

unfoldable pub entry_met : SegmentReader → (p : ℕ) → Lead → Step
entry_met r p (entry id) = step (placed r (p + 9) p (InEntry id)) (told (1 ∷ id ∷ []))
entry_met r p none = step (placed r p p Ended) (told (0 ∷ []))

abbrev pub entry_at : SegmentReader → List ℕ → (p : ℕ) → Step
entry_at r image p = entry_met r p (lead r.file_id image p)

-- a cut header met there: the place is the image's end
unfoldable pub entry_past : SegmentReader → List ℕ → (id : ℕ) → Skipped → Step
entry_past r image id (at p) = entry_at r image p
entry_past r image id (broken c) = step (resting r id (left (cut_off c (length image)))) (cut_short c)

unfoldable pub entry_from : SegmentReader → List ℕ → Start → Step
entry_from r image Unfit = step r (refusal 12)
entry_from r image Over = step r (told (0 ∷ []))
entry_from r image Idle = entry_at r image r.place
entry_from r image (Current id p) = entry_past r image id (skip image p)

unfoldable pub read_entry : SegmentReader → List ℕ → Step
read_entry r image = entry_from r image (start_of r (length image))

-- ---- next chunk: 02 is a chunk, 03 is passed and ends the entry, any other byte or none is an aborted entry and is not passed

unfoldable pub chunk_met : SegmentReader → List ℕ → (id p : ℕ) → Mark → Step
chunk_met r image id p (chunk n) = step (moved r (p + 5) (InChunk id p n n)) (told (1 ∷ p ∷ n ∷ []))
chunk_met r image id p close = step (resting r id (left (complete 0 (p + 1)))) (told (2 ∷ []))
chunk_met r image id p other = step (resting r id (left (aborted p))) (told (3 ∷ []))
chunk_met r image id p (cut k) = step (resting r id (left (cut_off (header_cut p k) (length image)))) (cut_short (header_cut p k))

unfoldable pub chunk_from : SegmentReader → List ℕ → Start → Step
chunk_from r image Unfit = step r (refusal 12)
chunk_from r image Over = step r (refusal 6)
chunk_from r image Idle = step r (refusal 6)
chunk_from r image (Current id p) = chunk_met r image id p (standing image p)

unfoldable pub read_chunk : SegmentReader → List ℕ → Step
read_chunk r image = chunk_from r image (start_of r (length image))

-- ---- data: min(asked, owed, present) bytes from the place, as a part of the image

abbrev pub present : (place : ℕ) → List ℕ → ℕ
present place image = length image - place

abbrev pub handed : (place owed asked : ℕ) → List ℕ → ℕ
handed place owed asked image = min asked (min owed (present place image))

unfoldable pub read_in : SegmentReader → List ℕ → (asked : ℕ) → Open → Step
read_in r image asked (Refused n) = step r (refusal n)
read_in r image asked (Chunk id mark n owed) =
    let k = handed r.place owed asked image in
    step (moved r (r.place + k) (InChunk id mark n (owed - k))) (told (r.place ∷ k ∷ []))

unfoldable pub read : SegmentReader → List ℕ → (asked : ℕ) → Step
read r image asked = read_in r image asked (open_of r (length image))

-- the part: from the place before the call, as long as the answer says; nothing beside a refusal
unfoldable pub bytes_in : SegmentReader → List ℕ → (asked : ℕ) → Open → List ℕ
bytes_in r image asked (Refused n) = []
bytes_in r image asked (Chunk id mark n owed) = part image r.place (handed r.place owed asked image)

unfoldable pub read_bytes : SegmentReader → List ℕ → (asked : ℕ) → List ℕ
read_bytes r image asked = bytes_in r image asked (open_of r (length image))

-- ---- the CRC check: 6 while bytes are owed, 9 if fewer than 4 remain, else 1 or 0; it moves nothing

abbrev pub verdict : Bool → ℕ
verdict true = 1
verdict false = 0

unfoldable pub check_at : List ℕ → (mark n owed : ℕ) → Reply
check_at image mark n owed =
    cond (eqb owed 0)
    (cond (fits image mark n) (told (verdict (matches image mark n) ∷ [])) (cut_short (body_cut image mark n)))
    (refusal 6)

unfoldable pub check_in : List ℕ → Open → Reply
check_in image (Refused n) = refusal n
check_in image (Chunk id mark n owed) = check_at image mark n owed

unfoldable pub check_crc : SegmentReader → List ℕ → Reply
check_crc r image = check_in image (open_of r (length image))

-- ---- leaving a chunk: the place is its 02 + 9 + n, even past the image; no CRC is checked

unfoldable pub skip_in : SegmentReader → Open → Step
skip_in r (Refused n) = step r (refusal n)
skip_in r (Chunk id mark n owed) = step (moved r (mark + 9 + n) (InEntry id)) (told [])

unfoldable pub skip_remaining : SegmentReader → List ℕ → Step
skip_remaining r image = skip_in r (open_of r (length image))

-- ---- a whole entry, from the next chunk on: the place it began at and the number of chunks; or aborted, 9, or 10

unfoldable pub whole_reply : (from : ℕ) → Whole → Reply
whole_reply from (complete count q) = told (1 ∷ from ∷ count ∷ [])
whole_reply from (aborted q) = told (2 ∷ [])
whole_reply from (cut_off c q) = cut_short c
whole_reply from (wrong_sum q) = refusal 10

abbrev pub whole_at : SegmentReader → (id from : ℕ) → Whole → Step
whole_at r id from w = step (resting r id (left w)) (whole_reply from w)

unfoldable pub whole_from : SegmentReader → List ℕ → Start → Step
whole_from r image Unfit = step r (refusal 12)
whole_from r image Over = step r (refusal 6)
whole_from r image Idle = step r (refusal 6)
whole_from r image (Current id p) = whole_at r id p (whole image p)

unfoldable pub read_all_chunks : SegmentReader → List ℕ → Step
read_all_chunks r image = whole_from r image (start_of r (length image))

-- ---- the version info that the reader found: empty beside 12

unfoldable pub version_info : SegmentReader → List ℕ → List ℕ
version_info r image = cond (fit r (length image)) (part image 5 r.version_info_length) []

-- ---- every call of a reader that was opened, by name

pub data Call : Type 0 where
  next_entry next_chunk crc_check skip_rest whole_entry : Call
  data_read : (asked : ℕ) → Call

unfoldable pub read_by : Call → SegmentReader → List ℕ → Step
read_by next_entry r image = read_entry r image
read_by next_chunk r image = read_chunk r image
read_by crc_check r image = step r (check_crc r image)
read_by skip_rest r image = skip_remaining r image
read_by whole_entry r image = read_all_chunks r image
read_by (data_read asked) r image = read r image asked

-- the state after calls, one after another, over the same image
unfoldable pub after : List Call → SegmentReader → List ℕ → SegmentReader
after [] r image = r
after (c ∷ cs) r image = after cs (read_by c r image).reader image
