-- What each public function of the reader may answer: its answer and the state that it leaves, as `Calls` has them. One definition gives document 01's
-- number and values for each case of an answer. That each promise allows one answer is in `PromisesLaws`.
use Rattle.std.specs.Prelude.{List, [], ◌∷◌, ◌≡◌, ℕ, Bool, Option, Some, None, Result, Ok, Err, length}
use Rattle.entry.specs.declared.Refusal.{Refusal}
use Rattle.entry.specs.declared.Refusal.TheVariants.{Short, Magic, Version, InfoTooLong, NoRoom, NotNow, LowId, BytesOwed, Cut, WrongSum, OutsideImage, OutOfRange}
use Rattle.segment_reader.specs.State.{Start, Unfit, Over, Idle, Current}
use Rattle.segment_reader.specs.Calls.{Reply, told, cut_short, refusal, step, verdict, new, read_entry, read_chunk, read, read_bytes, check_crc, skip_remaining, read_all_chunks, version_info}
use Rattle.segment_reader.specs.declared.SegmentReader.{SegmentReader}
use Rattle.segment_reader.specs.declared.ReadChunkResult.{ReadChunkResult}
use Rattle.segment_reader.specs.declared.ReadChunkResult.TheVariants.{Chunk, EndOfEntry, AbortedEntry}
use Rattle.segment_reader.specs.declared.Part.{Part}
use Rattle.segment_reader.specs.declared.WholeEntry.{WholeEntry}
use Rattle.segment_reader.specs.declared.WholeEntry.TheVariants.{Whole, Aborted}

-- ---- the code's answers in document 01's numbers and values

-- a cut is told apart by its details, any other refusal by its number
abbrev pub refused_by : Refusal → Reply
refused_by Short = refusal 1
refused_by Magic = refusal 2
refused_by Version = refusal 3
refused_by InfoTooLong = refusal 4
refused_by NoRoom = refusal 5
refused_by NotNow = refusal 6
refused_by LowId = refusal 7
refused_by BytesOwed = refusal 8
refused_by (Cut c) = cut_short c
refused_by WrongSum = refusal 10
refused_by OutsideImage = refusal 11
refused_by OutOfRange = refusal 12

-- `values` says which numbers are told of what a call gives
abbrev pub reply_of : {A : Type 0} → (A → List ℕ) → Result A Refusal → Reply
reply_of values (Ok x) = told (values x)
reply_of values (Err why) = refused_by why

abbrev pub no_values : Unit {0} → List ℕ
no_values x = []

abbrev pub entry_values : Option ℕ → List ℕ
entry_values (Some id) = 1 ∷ id ∷ []
entry_values None = 0 ∷ []

abbrev pub chunk_values : ReadChunkResult → List ℕ
chunk_values (Chunk mark n) = 1 ∷ mark ∷ n ∷ []
chunk_values EndOfEntry = 2 ∷ []
chunk_values AbortedEntry = 3 ∷ []

abbrev pub part_values : Part → List ℕ
part_values p = p.place ∷ length p.bytes.now ∷ []

abbrev pub crc_values : Bool → List ℕ
crc_values right = verdict right ∷ []

abbrev pub whole_values : WholeEntry → List ℕ
whole_values (Whole place chunks) = 1 ∷ place ∷ chunks ∷ []
whole_values Aborted = 2 ∷ []

-- a part's place and length alone
abbrev pub read_values : ℕ × ℕ → List ℕ
read_values (place, count) = place ∷ count ∷ []

-- what a read answers, its bytes left out
abbrev pub numbers_in : Result Part Refusal → Result (ℕ × ℕ) Refusal
numbers_in (Ok p) = Ok (p.place, length p.bytes.now)
numbers_in (Err why) = Err why

-- the bytes that a read hands out; none beside a refusal
abbrev pub bytes_of : Result Part Refusal → List ℕ
bytes_of (Ok p) = p.bytes.now
bytes_of (Err why) = []

-- ---- the current entry and the place in it, where there is one

abbrev pub current_of : Start → Result (ℕ × ℕ) Refusal
current_of Unfit = Err OutOfRange
current_of Over = Err NotNow
current_of Idle = Err NotNow
current_of (Current id place) = Ok (id, place)

-- ---- the promises

-- 12 and 6 keep the whole state
abbrev pub IsKept : {A : Type 0} → SegmentReader → Result A Refusal → SegmentReader → Type 0
IsKept r result r' = (result ≡ Err OutOfRange → r' ≡ r) × (result ≡ Err NotNow → r' ≡ r)

-- not refused with these
abbrev pub IsMoved : {A : Type 0} → Result A Refusal → Type 0
IsMoved result = (result ≡ Err OutOfRange → ⊥) × (result ≡ Err NotNow → ⊥)

abbrev pub NewAllows : (file : ℕ) → List ℕ → Result (Unit {0}) Refusal → SegmentReader → Type 0
NewAllows file image result r' = step r' (reply_of no_values result) ≡ new file image

abbrev pub ReadEntryAllows : SegmentReader → List ℕ → Result (Option ℕ) Refusal → SegmentReader → Type 0
ReadEntryAllows r image result r' = step r' (reply_of entry_values result) ≡ read_entry r image

abbrev pub ReadChunkAllows : SegmentReader → List ℕ → Result ReadChunkResult Refusal → SegmentReader → Type 0
ReadChunkAllows r image result r' = step r' (reply_of chunk_values result) ≡ read_chunk r image

-- the numbers and the bytes of one read
abbrev pub ReadAllows : SegmentReader → List ℕ → (asked : ℕ) → Result Part Refusal → SegmentReader → Type 0
ReadAllows r image asked result r' = (step r' (reply_of part_values result) ≡ read r image asked) × (bytes_of result ≡ read_bytes r image asked)

-- its numbers alone, and the state
abbrev pub AfterReadAllows : SegmentReader → List ℕ → (asked : ℕ) → Result (ℕ × ℕ) Refusal → SegmentReader → Type 0
AfterReadAllows r image asked result r' = step r' (reply_of read_values result) ≡ read r image asked

-- its bytes alone; the reader stays
abbrev pub PartAllows : SegmentReader → List ℕ → (asked : ℕ) → (part : List ℕ) → Type 0
PartAllows r image asked part = part ≡ read_bytes r image asked

abbrev pub CheckCrcAllows : SegmentReader → List ℕ → Result Bool Refusal → Type 0
CheckCrcAllows r image result = reply_of crc_values result ≡ check_crc r image

abbrev pub SkipAllows : SegmentReader → List ℕ → Result (Unit {0}) Refusal → SegmentReader → Type 0
SkipAllows r image result r' = step r' (reply_of no_values result) ≡ skip_remaining r image

abbrev pub ReadAllChunksAllows : SegmentReader → List ℕ → Result WholeEntry Refusal → SegmentReader → Type 0
ReadAllChunksAllows r image result r' = step r' (reply_of whole_values result) ≡ read_all_chunks r image

abbrev pub VersionInfoAllows : SegmentReader → List ℕ → (part : List ℕ) → Type 0
VersionInfoAllows r image part = part ≡ version_info r image
