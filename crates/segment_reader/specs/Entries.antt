-- The entries of a segment in turn: what each call of `next` gives.
use Rattle.std.specs.Prelude.{List, ℕ, ◌≡◌, Option, Some, None, Result, Ok, Err}
use Rattle.entry.specs.declared.Refusal.{Refusal}
use Rattle.lists.specs.NumbersLaws.{Bytes}
use Rattle.segment_reader.specs.Promises.{ReadEntryAllows, ReadAllChunksAllows}
use Rattle.segment_reader.specs.Turns.{verdict_by, Ready, FoundSays, OverSays}
use Rattle.segment_reader.specs.declared.SegmentReader.{SegmentReader}
use Rattle.segment_reader.specs.declared.WholeEntry.{WholeEntry}
use Rattle.segment_reader.specs.declared.survey.EntryRead.{EntryRead}
use Rattle.segment_reader.specs.declared.entries.Entries.{Entries}

-- an entry that the reading finds, its verdict that of a whole reading; or the reading is over, and `valid_until` says where
abbrev pub NextSays : List ℕ → SegmentReader → Option EntryRead → SegmentReader → Type 0
NextSays image r (Some e) q = FoundSays image r q e
NextSays image r None q = OverSays image r q

-- ---- the same by the reader's calls, of any state

-- an entry, and then all its chunks: the item has that answer's verdict, and the place before it
pub record WholeSays (image : List ℕ) (id : ℕ) (r : SegmentReader) (item : Option EntryRead) (q : SegmentReader) : Type 0 where
  pub answer : Result WholeEntry Refusal
  pub allows : ReadAllChunksAllows r image answer q
  pub met : item ≡ Some (record { verdict = verdict_by answer; id = id; place = r.place })

-- a refusal, and then one more call for an entry, whatever it answers: no item
pub record AgainSays (image : List ℕ) (r : SegmentReader) (item : Option EntryRead) (q : SegmentReader) : Type 0 where
  pub answer : Result (Option ℕ) Refusal
  pub allows : ReadEntryAllows r image answer q
  pub over : item ≡ None

-- by what the call for an entry answers
abbrev pub BehindSays : List ℕ → Result (Option ℕ) Refusal → SegmentReader → Option EntryRead → SegmentReader → Type 0
BehindSays image (Ok (Some id)) r item q = WholeSays image id r item q
BehindSays image (Ok None) r item q = (item ≡ None) × (q ≡ r)
BehindSays image (Err why) r item q = AgainSays image r item q

-- a call for an entry, and what stands behind it
pub record CallsSay (image : List ℕ) (r : SegmentReader) (item : Option EntryRead) (q : SegmentReader) : Type 0 where
  pub answer : Result (Option ℕ) Refusal
  pub behind : SegmentReader
  pub allows : ReadEntryAllows r image answer behind
  pub says : BehindSays image answer behind item q

-- the reader keeps its image, and the item is what its calls give; of a reader that an opening and then such calls lead to, it is what the reading finds
-- next
pub record EntriesNext (s : Entries) (item : Option EntryRead) (t : Entries) : Type 0 where
  pub image : t.reader.image ≡ s.reader.image
  pub calls : CallsSay s.reader.image.now s.reader.state item t.reader.state
  pub says : Bytes s.reader.image.now → Ready s.reader.image.now s.reader.state → NextSays s.reader.image.now s.reader.state item t.reader.state
