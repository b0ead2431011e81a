-- What each function of a reader may return and leave in the slices that it is lent: `crossed`, at its call. A shared slice stays.
use Rattle.std.specs.Prelude.{ℕ, ◌≡◌, List, []}
use Rattle.segment_reader.specs.Calls.{next_entry, next_chunk, crc_check, skip_rest, whole_entry, data_read}
use Rattle.okaywal_segment.specs.ReaderCrossing.{read, opened_reader, ReaderAllows}

abbrev pub OpenAllows : (state image : List ℕ) (file : ℕ) → (number : ℕ) (state' : List ℕ) → Type 0
OpenAllows state image file number state' = read number state' [] ≡ opened_reader state image file

abbrev pub EntryAllows : (state image answer : List ℕ) → (number : ℕ) (state' answer' : List ℕ) → Type 0
EntryAllows state image answer number state' answer' = ReaderAllows next_entry state image answer number state' answer'

abbrev pub ChunkAllows : (state image answer : List ℕ) → (number : ℕ) (state' answer' : List ℕ) → Type 0
ChunkAllows state image answer number state' answer' = ReaderAllows next_chunk state image answer number state' answer'

abbrev pub DataAllows : (state image : List ℕ) (asked : ℕ) (answer : List ℕ) → (number : ℕ) (state' answer' : List ℕ) → Type 0
DataAllows state image asked answer number state' answer' = ReaderAllows (data_read asked) state image answer number state' answer'

-- the state stays
abbrev pub CheckCrcAllows : (state image answer : List ℕ) → (number : ℕ) (answer' : List ℕ) → Type 0
CheckCrcAllows state image answer number answer' = ReaderAllows crc_check state image answer number state answer'

abbrev pub SkipAllows : (state image : List ℕ) → (number : ℕ) (state' : List ℕ) → Type 0
SkipAllows state image number state' = ReaderAllows skip_rest state image [] number state' []

abbrev pub WholeAllows : (state image answer : List ℕ) → (number : ℕ) (state' answer' : List ℕ) → Type 0
WholeAllows state image answer number state' answer' = ReaderAllows whole_entry state image answer number state' answer'
