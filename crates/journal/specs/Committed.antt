-- What a run has committed since opening or recycling, the writer that it leaves, and when that writer's image is a segment of these entries: what a
-- reader has to find there. The laws are in `CommittedLaws`.
use Rattle.std.specs.Prelude.{ℕ, ◌+◌, ◌≤◌, ◌≡◌, List, [], ◌∷◌, length, take, Result, Ok}
use Rattle.entry.specs.declared.Refusal.{Refusal}
use Rattle.entry.specs.Format.{Entry, segment, largest_image}
use Rattle.log_file.specs.declared.Moment.TheVariants.{Idle}
use Rattle.log_file.specs.State.{Machine, position}
use Rattle.log_file.specs.Calls.{Call}
use Rattle.log_file.specs.History.{History, next}
use Rattle.log_file.specs.HistoryRanges.{Argued}
use Rattle.lists.specs.All.{All}
use Rattle.entry.specs.Writable.{Writable}
use Rattle.reading.specs.Yielded.{as_found, yielded}
use Rattle.segment_reader.specs.Driver.{recorded, recorded_words, in_words}
use Rattle.segment_reader.specs.declared.survey.SegmentRead.{SegmentRead}
use Rattle.segment_reader.specs.declared.survey.EntryRead.{EntryRead}
use Rattle.journal.specs.Stories.{calls}
use Rattle.journal.specs.CodeRuns.{Stepping, left_as, hears}

-- the history after a trace, under an image of n bytes; `committed` of it are the entries committed since opening or recycling
abbrev pub history_after : (n : ℕ) → History → List Call → History
history_after n h [] = h
history_after n h (c ∷ cs) = history_after n (next n h c) cs

-- the writer, with its buffers, after a run
abbrev pub writer_after : Machine → List Stepping → Machine
writer_after m [] = m
writer_after m (x ∷ xs) = writer_after (left_as x) xs

-- every argument has the width of its type, u64 or u32: so it is with all values of the code
abbrev pub Typed : List Stepping → Type 0
Typed xs = All Argued (calls (hears xs))

-- idle and flushed: nothing open, nothing staged
pub record AtRest (m : Machine) : Type 0 where
  pub idle : m.writer.moment ≡ Idle
  pub none_staged : m.writer.file.staged ≡ 0

-- the image, cut off at the logical position, is the format's segment of these entries, each of which can be read under the writer's id: its own id is not
-- below that and has 64 bits, its chunks' lengths have 32
pub record HoldsSegment (m : Machine) (info : List ℕ) (entries : List Entry) : Type 0 where
  pub image : take (position m.writer) m.image ≡ segment info entries
  pub ends : position m.writer ≡ length (segment info entries)
  pub small : position m.writer ≤ largest_image
  pub readable : All (Writable m.writer.id) entries

-- what `read_segment`, given an image, answered (a) and recorded (`after`, where `before` stood) gives these entries back: it met exactly them, all
-- complete, their sums right; the valid bytes end at `end`; id, place and number of chunks of each are recorded, in order and back to back from
-- behind the header, and so in words, four an entry; and the data that stands there in the image is theirs
pub record GivesBack (image info : List ℕ) (entries : List Entry) (end : ℕ) (before : List EntryRead) (a : Result SegmentRead Refusal) (after : List EntryRead) : Type 0 where
  pub answer : a ≡ Ok (record { met = length entries; complete = length entries; valid_until = end })
  pub recorded_so : after ≡ recorded before 0 (as_found (5 + length info) entries)
  pub words_so : in_words after ≡ recorded_words (in_words before) 0 (as_found (5 + length info) entries)
  pub yields_them : yielded image (as_found (5 + length info) entries) ≡ entries
