-- What the thin reader's calls promise: what the call of the state promises (`Promises`) of the state that the reader holds and of the image behind its
-- reference, which stays the very reference. That each promise allows one answer is in `HeldLaws`.
use Rattle.std.specs.Prelude.{List, ◌≡◌, ℕ, Bool, Option, Result, get_or}
use Rattle.std.specs.Borrow.{Bor}
use Rattle.entry.specs.declared.Refusal.{Refusal}
use Rattle.segment_reader.specs.Calls.{Reply, told, cut_short, refusal, new, read_entry, read_chunk, read, read_all_chunks}
use Rattle.segment_reader.specs.Promises.{reply_of, no_values, entry_values, NewAllows, ReadEntryAllows, ReadChunkAllows, ReadAllows, AfterReadAllows, PartAllows, CheckCrcAllows, ReadAllChunksAllows}
use Rattle.segment_reader.specs.declared.SegmentReader.{SegmentReader}
use Rattle.segment_reader.specs.declared.ReadChunkResult.{ReadChunkResult}
use Rattle.segment_reader.specs.declared.Part.{Part}
use Rattle.segment_reader.specs.declared.WholeEntry.{WholeEntry}
use Rattle.segment_reader.specs.declared.held.Reader.{Reader}
use Rattle.segment_reader.specs.declared.held.FirstWhole.{FirstWhole}

-- the image, the very reference, beside a state
abbrev pub held : Bor (List ℕ) → SegmentReader → Reader
held image state = record { image = image; state = state }

abbrev pub HeldNewAllows : Bor (List ℕ) → SegmentReader → Reader → Type 0
HeldNewAllows image state r = r ≡ held image state

abbrev pub HeldWithStateAllows : Reader → SegmentReader → Reader → Type 0
HeldWithStateAllows r state s = s ≡ held r.image state

abbrev pub HeldOpenAllows : (file : ℕ) → Reader → Result (Unit {0}) Refusal → Reader → Type 0
HeldOpenAllows file r result r' = (r'.image ≡ r.image) × NewAllows file r.image.now result r'.state

abbrev pub HeldBytesAllows : Reader → (asked : ℕ) → Result Part Refusal → Reader → Type 0
HeldBytesAllows r asked result r' = (r'.image ≡ r.image) × ReadAllows r.state r.image.now asked result r'.state

abbrev pub HeldAfterBytesAllows : Reader → (asked : ℕ) → Result (ℕ × ℕ) Refusal → SegmentReader → Type 0
HeldAfterBytesAllows r asked result state = AfterReadAllows r.state r.image.now asked result state

abbrev pub HeldPartAllows : Reader → (asked : ℕ) → (part : List ℕ) → Type 0
HeldPartAllows r asked part = PartAllows r.state r.image.now asked part

abbrev pub HeldCheckCrcAllows : Reader → Result Bool Refusal → Type 0
HeldCheckCrcAllows r result = CheckCrcAllows r.state r.image.now result

abbrev pub HeldEntryAllows : Reader → Result (Option ℕ) Refusal → Reader → Type 0
HeldEntryAllows r result r' = (r'.image ≡ r.image) × ReadEntryAllows r.state r.image.now result r'.state

abbrev pub HeldChunkAllows : Reader → Result ReadChunkResult Refusal → Reader → Type 0
HeldChunkAllows r result r' = (r'.image ≡ r.image) × ReadChunkAllows r.state r.image.now result r'.state

abbrev pub HeldWholeAllows : Reader → Result WholeEntry Refusal → Reader → Type 0
HeldWholeAllows r result r' = (r'.image ≡ r.image) × ReadAllChunksAllows r.state r.image.now result r'.state

-- the opening, the next entry of the reader that it leaves, and the rest of the entry of the reader that this leaves
abbrev pub FirstWholeAllows : (file : ℕ) → List ℕ → FirstWhole → Type 0
FirstWholeAllows file image s =
    let opened = new file image in
    let entered = read_entry opened.reader image in
    (reply_of no_values s.opening ≡ opened.reply) × (reply_of entry_values s.entry ≡ entered.reply)
    × ReadAllChunksAllows entered.reader image s.whole s.state

-- the third value of an entry that is whole, the number of its chunks; 0 of any other answer
unfoldable pub chunks_in : Reply → ℕ
chunks_in (told values) = get_or values 2 0
chunks_in (cut_short c) = 0
chunks_in (refusal n) = 0

abbrev pub FirstChunksAllows : (file : ℕ) → List ℕ → (chunks : ℕ) → Type 0
FirstChunksAllows file image chunks = chunks ≡ chunks_in (read_all_chunks (read_entry (new file image).reader image).reader image).reply

-- the state in the first entry's first chunk, before its bytes, where there is one
abbrev pub at_first_chunk : (file : ℕ) → List ℕ → SegmentReader
at_first_chunk file image = (read_chunk (read_entry (new file image).reader image).reader image).reader

abbrev pub FirstBytesAllows : (file : ℕ) → List ℕ → (asked : ℕ) → (part : List ℕ) → Type 0
FirstBytesAllows file image asked part = PartAllows (at_first_chunk file image) image asked part

-- a chunk has at most 2^32 - 1 bytes: behind as many, all that is there is read
abbrev pub FirstCrcAllows : (file : ℕ) → List ℕ → Result Bool Refusal → Type 0
FirstCrcAllows file image a = CheckCrcAllows (read (at_first_chunk file image) image 0xFFFFFFFF).reader image a
