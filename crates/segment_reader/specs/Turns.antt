-- What one turn of a whole reading says, in `Driver`'s terms: a call for an entry and, where there is one, a call for all its chunks.
use Rattle.std.specs.Prelude.{List, ◌≡◌, ℕ, ◌+◌, ◌<◌, length, Result, Ok, Err}
use Rattle.entry.specs.declared.Refusal.{Refusal}
use Rattle.reading.specs.Reading.{whole, left, entry, none, lead}
use Rattle.reading.specs.WholeReading.{onward}
use Rattle.reading.specs.declared.walks.Next.{Next}
use Rattle.reading.specs.declared.walks.Next.TheVariants.{Seek, Pass}
use Rattle.segment_reader.specs.Driver.{verdict_read}
use Rattle.segment_reader.specs.LedLaws.{Led}
use Rattle.segment_reader.specs.declared.Moment.{Moment}
use Rattle.segment_reader.specs.declared.Moment.TheVariants.{Between, InEntry, InChunk, Ended}
use Rattle.segment_reader.specs.declared.SegmentReader.{SegmentReader}
use Rattle.segment_reader.specs.declared.WholeEntry.{WholeEntry}
use Rattle.segment_reader.specs.declared.WholeEntry.TheVariants.{Whole as IsWhole, Aborted as IsAborted}
use Rattle.segment_reader.specs.declared.survey.Verdict.{Verdict}
use Rattle.segment_reader.specs.declared.survey.Verdict.TheVariants.{Complete, Aborted, Refused}
use Rattle.segment_reader.specs.declared.survey.EntryRead.{EntryRead}

-- the verdict in an answer
abbrev pub verdict_by : Result WholeEntry Refusal → Verdict
verdict_by (Ok (IsWhole place chunks)) = Complete chunks
verdict_by (Ok IsAborted) = Aborted
verdict_by (Err why) = Refused why

abbrev pub one_by : Verdict → ℕ
one_by (Complete chunks) = 1
one_by Aborted = 0
one_by (Refused why) = 0

-- between two turns: no entry is current, or one is, and no chunk is open
abbrev pub Calm : Moment → Type 0
Calm Between = Unit {0}
Calm (InEntry id) = Unit {0}
Calm (InChunk id mark n owed) = ⊥
Calm Ended = ⊥

pub record Ready (image : List ℕ) (r : SegmentReader) : Type 0 where
  pub led : Led image r
  pub calm : Calm r.moment

unfoldable pub next_by : Moment → (place : ℕ) → Next
next_by Between p = Seek p
next_by (InEntry id) p = Pass p
next_by (InChunk id mark n owed) p = Seek p
next_by Ended p = Seek p

-- where the next 01 is looked for
abbrev pub where_to : List ℕ → SegmentReader → ℕ
where_to image r = onward image (next_by r.moment r.place)

pub record FoundSays (image : List ℕ) (r q : SegmentReader) (e : EntryRead) : Type 0 where
  pub begins : lead r.file_id image (where_to image r) ≡ entry e.id
  pub chunks : e.place ≡ where_to image r + 9
  pub verdict : e.verdict ≡ verdict_read (whole image (where_to image r + 9))
  pub goes_on : where_to image q ≡ onward image (left (whole image (where_to image r + 9)))
  pub ready : Ready image q
  pub same_file : q.file_id ≡ r.file_id
  pub forward : r.place < q.place
  pub inside : r.place < length image

-- a header that is cut: the place is the image's end
pub record PassedSays (image : List ℕ) (r q : SegmentReader) : Type 0 where
  pub stops : q.place ≡ length image
  pub goes_on : where_to image q ≡ where_to image r
  pub ready : Ready image q
  pub same_file : q.file_id ≡ r.file_id
  pub forward : r.place < q.place
  pub inside : r.place < length image

pub record OverSays (image : List ℕ) (r q : SegmentReader) : Type 0 where
  pub ends : lead r.file_id image (where_to image r) ≡ none
  pub valid : q.valid_until ≡ where_to image r
