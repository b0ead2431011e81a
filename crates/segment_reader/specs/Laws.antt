-- What `laws` promises of every reader.
use Rattle.std.specs.Prelude.{ℕ, ◌+◌, ◌≡◌, ◌≤◌, true, List, [], ◌∷◌, ◌++◌, length, replicate, Bool, Option, Result, Ok, Err}
use Rattle.std.specs.Borrow.{Bor}
use Rattle.lists.specs.All.{All}
use Rattle.lists.specs.Stream.{part}
use Rattle.entry.specs.Format.{Entry, segment, largest_image}
use Rattle.lists.specs.NumbersLaws.{Bytes}
use Rattle.entry.specs.Writable.{Writable}
use Rattle.entry.specs.Refusal as numbers
use Rattle.entry.specs.declared.Refusal.{Refusal}
use Rattle.reading.specs.Yielded.{as_found}
use Rattle.segment_reader.specs.State.{fit, open_of}
use Rattle.segment_reader.specs.Calls.{told, new, read_entry, Call, read_by, answer_of}
use Rattle.segment_reader.specs.CallsLaws.{Kept, ReadAgrees}
use Rattle.segment_reader.specs.LedLaws.{farthest, led_by}
use Rattle.segment_reader.specs.EndedLaws.{ended, Ends}
use Rattle.segment_reader.specs.Cuts.{Piece, ask, read_to, gathered, to_come, ReadOut}
use Rattle.segment_reader.specs.CutsLaws.{Alike}
use Rattle.segment_reader.specs.Driver.{recorded, ReadSegmentAllows}
use Rattle.segment_reader.specs.ReadBack.{all_read}
use Rattle.segment_reader.specs.Promises.{reply_of, refused_by, no_values, NewAllows, ReadEntryAllows, ReadChunkAllows, ReadAllows, AfterReadAllows, PartAllows, CheckCrcAllows, SkipAllows, ReadAllChunksAllows, VersionInfoAllows}
use Rattle.segment_reader.specs.PromisesLaws.{seen}
use Rattle.segment_reader.specs.Step.{step_values, bytes_given, kind_given, StepAllows}
use Rattle.segment_reader.specs.Entries.{EntriesNext}
use Rattle.segment_reader.specs.Held.{HeldOpenAllows, HeldNewAllows, HeldWithStateAllows, HeldBytesAllows, HeldAfterBytesAllows, HeldPartAllows, HeldCheckCrcAllows, HeldEntryAllows, HeldChunkAllows, HeldWholeAllows, FirstWholeAllows, FirstChunksAllows, FirstBytesAllows, FirstCrcAllows}
use Rattle.segment_reader.specs.declared.SegmentReader.{SegmentReader}
use Rattle.segment_reader.specs.declared.Part.{Part}
use Rattle.segment_reader.specs.declared.calls.Call as code
use Rattle.segment_reader.specs.declared.calls.Reply.{Reply}
use Rattle.segment_reader.specs.declared.held.Reader.{Reader}
use Rattle.segment_reader.specs.declared.held.FirstWhole.{FirstWhole}
use Rattle.segment_reader.specs.declared.survey.EntryRead.{EntryRead}
use Rattle.segment_reader.specs.declared.survey.SegmentRead.{SegmentRead}
use Rattle.segment_reader.specs.declared.entries.Entries.{Entries}

-- 12 and 6 keep the whole state
abbrev pub RangeAndMomentKeepTheReader : Type 0
RangeAndMomentKeepTheReader = (c : Call) (r : SegmentReader) (image : List ℕ) → Kept r (read_by c r image)

-- a state that an opening and then calls lead to is one for its image
abbrev pub OpenedStaysInRange : Type 0
OpenedStaysInRange =
    (file : ℕ) (image : List ℕ) → Bytes image → (new file image).reply ≡ told [] → (calls : List Call)
    → (fit (led_by file image calls) (length image) ≡ true) × ((led_by file image calls).place ≤ farthest)

-- once a call for an entry has answered ended
abbrev pub EndedStaysEnded : Type 0
EndedStaysEnded =
    (file : ℕ) (image : List ℕ) → Bytes image → (new file image).reply ≡ told [] → (before later : List Call)
    → (read_entry (led_by file image before) image).reply ≡ ended → Ends image (read_entry (led_by file image before) image).reader later

-- a read's part and its numbers
abbrev pub ReadsAgree : Type 0
ReadsAgree = (r : SegmentReader) (image : List ℕ) (asked : ℕ) → ReadAgrees r image asked

-- a chunk read to its end in any pieces: equal bytes, verdict and next place; all that is to come; and one read that asks for so much is one way
abbrev pub CutsOfAReadingDoNotShow : Type 0
CutsOfAReadingDoNotShow =
    (r : SegmentReader) (image : List ℕ) (ps qs : List Piece) → ReadOut (read_to ps r image) image → ReadOut (read_to qs r image) image → Alike r image ps qs

abbrev pub PiecesGiveAllThatIsToCome : Type 0
PiecesGiveAllThatIsToCome =
    (r : SegmentReader) (image : List ℕ) (ps : List Piece) → ReadOut (read_to ps r image) image
    → gathered ps r image ≡ part image r.place (to_come r image (open_of r (length image)))

abbrev pub OneReadEnds : Type 0
OneReadEnds =
    (r : SegmentReader) (image : List ℕ) (k : ℕ) → to_come r image (open_of r (length image)) ≤ k → ReadOut (read_to (ask k ∷ []) r image) image

-- `read_segment` gives a segment's entries back: each met, complete and recorded
abbrev pub SegmentsAreReadBack : Type 0
SegmentsAreReadBack =
    (file : ℕ) (info : List ℕ) (es : List Entry) (k : ℕ) → All (Writable file) es → length (segment info es ++ replicate k 0) ≤ largest_image
    → (before : List EntryRead) (a : Result SegmentRead Refusal) (after : List EntryRead) → ReadSegmentAllows file (segment info es ++ replicate k 0) before a after
    → (a ≡ Ok (all_read info es)) × (after ≡ recorded before 0 (as_found (5 + length info) es))

-- a refusal's number is the same here as for a writer
abbrev pub RefusalsHaveTheirNumbers : Type 0
RefusalsHaveTheirNumbers = (why : Refusal) → answer_of (refused_by why) ≡ numbers.answer_of {A = Unit {0}} no_values (Err why)

-- ---- any two answers that a promise allows are equal, and so are the states

abbrev pub OneAnswer : {A : Type 0} {S : Type 0} → (Result A Refusal → S → Type 0) → Type 0
OneAnswer {A = A} {S = S} P = (s t : Result A Refusal) (p q : S) → P s p → P t q → (s ≡ t) × (p ≡ q)

-- a part is seen as its place and its bytes
abbrev pub OnePart : {S : Type 0} → (Result Part Refusal → S → Type 0) → Type 0
OnePart {S = S} P = (s t : Result Part Refusal) (p q : S) → P s p → P t q → (seen s ≡ seen t) × (p ≡ q)

pub record CallsHaveOneAnswer : Type 0 where
  pub opening : (file : ℕ) (image : List ℕ) → OneAnswer (λ s r. NewAllows file image s r)
  pub read_entry : (r : SegmentReader) (image : List ℕ) → OneAnswer (λ s q. ReadEntryAllows r image s q)
  pub read_chunk : (r : SegmentReader) (image : List ℕ) → OneAnswer (λ s q. ReadChunkAllows r image s q)
  pub read : (r : SegmentReader) (image : List ℕ) (asked : ℕ) → OnePart (λ s q. ReadAllows r image asked s q)
  -- its numbers and the state alone, its bytes alone
  pub after_read : (r : SegmentReader) (image : List ℕ) (asked : ℕ) → OneAnswer (λ s q. AfterReadAllows r image asked s q)
  pub part : (r : SegmentReader) (image : List ℕ) (asked : ℕ) (s t : List ℕ) → PartAllows r image asked s → PartAllows r image asked t → s ≡ t
  pub check_crc : (r : SegmentReader) (image : List ℕ) (s t : Result Bool Refusal) → CheckCrcAllows r image s → CheckCrcAllows r image t → s ≡ t
  pub skip : (r : SegmentReader) (image : List ℕ) → OneAnswer (λ s q. SkipAllows r image s q)
  pub read_all_chunks : (r : SegmentReader) (image : List ℕ) → OneAnswer (λ s q. ReadAllChunksAllows r image s q)
  pub version_info : (r : SegmentReader) (image s t : List ℕ) → VersionInfoAllows r image s → VersionInfoAllows r image t → s ≡ t
  -- a reply by name: what is told, the bytes, the state, and the kind
  pub step : (c : code.Call) (r : SegmentReader) (image : List ℕ) (s t : Result Reply Refusal) (p q : SegmentReader) → StepAllows c r image s p → StepAllows c r image t q
      → (reply_of step_values s ≡ reply_of step_values t) × (bytes_given s ≡ bytes_given t) × (p ≡ q) × (kind_given s ≡ kind_given t)

abbrev pub SurveyHasOneAnswer : Type 0
SurveyHasOneAnswer = (file : ℕ) (image : List ℕ) (before : List EntryRead) → OneAnswer (λ s after. ReadSegmentAllows file image before s after)

abbrev pub EntriesHaveOneAnswer : Type 0
EntriesHaveOneAnswer = (s : Entries) (i j : Option EntryRead) (t u : Entries) → EntriesNext s i t → EntriesNext s j u → (i ≡ j) × (t ≡ u)

pub record ThinReaderHasOneAnswer : Type 0 where
  pub opening : (r : Reader) (file : ℕ) → OneAnswer (λ s q. HeldOpenAllows file r s q)
  pub together : (image : Bor (List ℕ)) (state : SegmentReader) (p q : Reader) → HeldNewAllows image state p → HeldNewAllows image state q → p ≡ q
  pub with_state : (r : Reader) (state : SegmentReader) (p q : Reader) → HeldWithStateAllows r state p → HeldWithStateAllows r state q → p ≡ q
  pub entry : (r : Reader) → OneAnswer (λ s q. HeldEntryAllows r s q)
  pub chunk : (r : Reader) → OneAnswer (λ s q. HeldChunkAllows r s q)
  pub bytes : (r : Reader) (asked : ℕ) → OnePart (λ s q. HeldBytesAllows r asked s q)
  pub after_bytes : (r : Reader) (asked : ℕ) → OneAnswer (λ s q. HeldAfterBytesAllows r asked s q)
  pub part : (r : Reader) (asked : ℕ) (s t : List ℕ) → HeldPartAllows r asked s → HeldPartAllows r asked t → s ≡ t
  pub check_crc : (r : Reader) (s t : Result Bool Refusal) → HeldCheckCrcAllows r s → HeldCheckCrcAllows r t → s ≡ t
  pub whole : (r : Reader) → OneAnswer (λ s q. HeldWholeAllows r s q)
  pub first_whole : (file : ℕ) (image : List ℕ) (s t : FirstWhole) → FirstWholeAllows file image s → FirstWholeAllows file image t → s ≡ t
  pub first_chunks : (file : ℕ) (image : List ℕ) (s t : ℕ) → FirstChunksAllows file image s → FirstChunksAllows file image t → s ≡ t
  pub first_bytes : (file : ℕ) (image : List ℕ) (asked : ℕ) (s t : List ℕ) → FirstBytesAllows file image asked s → FirstBytesAllows file image asked t → s ≡ t
  pub first_crc : (file : ℕ) (image : List ℕ) (s t : Result Bool Refusal) → FirstCrcAllows file image s → FirstCrcAllows file image t → s ≡ t
