-- What `read_segment` answers of a whole reading (`WholeReading`) and records in a lent list of entries. The laws are in `DriverLaws`.
use Rattle.std.specs.Prelude.{cond, List, [], ◌∷◌, ◌≡◌, ℕ, suc, ◌+◌, ◌*◌, ◌++◌, length, leb, ltb, slice_set, Result}
use Rattle.lists.specs.Lay.{lay}
use Rattle.entry.specs.Format.{largest_image}
use Rattle.entry.specs.declared.Refusal.{Refusal}
use Rattle.entry.specs.declared.Refusal.TheVariants.{Cut, WrongSum}
use Rattle.reading.specs.Reading.{Whole, complete, aborted, cut_off, wrong_sum, Opened, opens, refuses, opened}
use Rattle.reading.specs.WholeReading.{Found, Reading, read_from}
use Rattle.entry.specs.Refusal.{refusal_number}
use Rattle.segment_reader.specs.Calls.{Reply, told, refusal, cut_number}
use Rattle.segment_reader.specs.Promises.{reply_of}
use Rattle.segment_reader.specs.declared.survey.Verdict.{Verdict}
use Rattle.segment_reader.specs.declared.survey.Verdict.TheVariants.{Complete, Aborted, Refused}
use Rattle.segment_reader.specs.declared.survey.EntryRead.{EntryRead}
use Rattle.segment_reader.specs.declared.survey.SegmentRead.{SegmentRead}

-- ---- what is recorded: as many entries as fit; those past them stay

-- complete, aborted, or the refusal
unfoldable pub verdict_read : Whole → Verdict
verdict_read (complete count q) = Complete count
verdict_read (aborted q) = Aborted
verdict_read (cut_off c q) = Refused (Cut c)
verdict_read (wrong_sum q) = Refused WrongSum

-- the verdict, the id, and the place where its chunks begin
unfoldable pub entry_read : Found → EntryRead
entry_read f = record { verdict = verdict_read f.contents; id = f.id; place = f.place + 9 }

-- the k-th entry, where it fits
unfoldable pub noted : List EntryRead → (k : ℕ) → EntryRead → List EntryRead
noted list k e = cond (ltb k (length list)) (slice_set list k e) list

-- the entries from the k-th on
unfoldable pub recorded : List EntryRead → (k : ℕ) → List Found → List EntryRead
recorded list k [] = list
recorded list k (f ∷ fs) = recorded (noted list k (entry_read f)) (suc k) fs

-- the complete ones
unfoldable pub one_if : Whole → ℕ
one_if (complete count q) = 1
one_if (aborted q) = 0
one_if (cut_off c q) = 0
one_if (wrong_sum q) = 0

unfoldable pub completes : List Found → ℕ
completes [] = 0
completes (f ∷ fs) = one_if f.contents + completes fs

-- ---- what `read_segment` answers, and the list afterwards: entries met, complete ones, and `valid_until`; or the opening's refusal, and nothing recorded

pub record Surveyed : Type 0 where
  pub reply : Reply
  pub list : List EntryRead

abbrev pub surveyed : Reply → List EntryRead → Surveyed
surveyed a list = record { reply = a; list = list }

-- with k entries met and c of them complete before it
unfoldable pub survey_of : List EntryRead → (k c : ℕ) → Reading → Surveyed
survey_of list k c r =
    surveyed (told ((k + length r.entries) ∷ (c + completes r.entries) ∷ r.valid_until ∷ [])) (recorded list k r.entries)

unfoldable pub read_opened : (file : ℕ) → (image : List ℕ) → (list : List EntryRead) → Opened → Surveyed
read_opened file image list (opens v) = survey_of list 0 0 (read_from file image (5 + v))
read_opened file image list (refuses n) = surveyed (refusal n) list

unfoldable pub read_segment : (file : ℕ) → (image : List ℕ) → (list : List EntryRead) → Surveyed
read_segment file image list = cond (leb (length image) largest_image) (read_opened file image list (opened image)) (surveyed (refusal 12) list)

-- ---- an entry in four words: by what was found of it, and by what was recorded of it (`words-read` of `WordsLaws`: they are the same), and so a list of
-- entries (`recorded-words`)

-- 1 complete, 2 aborted, or the number of the refusal
unfoldable pub verdict_of : Whole → ℕ
verdict_of (complete count q) = 1
verdict_of (aborted q) = 2
verdict_of (cut_off c q) = cut_number c.part
verdict_of (wrong_sum q) = 10

-- 0 beside anything but a complete entry
unfoldable pub chunks_of : Whole → ℕ
chunks_of (complete count q) = count
chunks_of (aborted q) = 0
chunks_of (cut_off c q) = 0
chunks_of (wrong_sum q) = 0

-- the verdict, the id, the place where its chunks begin, and their number
unfoldable pub words : Found → List ℕ
words f = verdict_of f.contents ∷ f.id ∷ (f.place + 9) ∷ chunks_of f.contents ∷ []

unfoldable pub verdict_word : Verdict → ℕ
verdict_word (Complete count) = 1
verdict_word Aborted = 2
verdict_word (Refused why) = refusal_number why

unfoldable pub chunks_word : Verdict → ℕ
chunks_word (Complete count) = count
chunks_word Aborted = 0
chunks_word (Refused why) = 0

unfoldable pub words_of : EntryRead → List ℕ
words_of e = verdict_word e.verdict ∷ e.id ∷ e.place ∷ chunks_word e.verdict ∷ []

-- the words of the k-th entry, where they fit
unfoldable pub noted_words : List ℕ → (k : ℕ) → List ℕ → List ℕ
noted_words list k ws = cond (leb (k * 4 + 4) (length list)) (lay list (k * 4) ws) list

-- the entries from the k-th on
unfoldable pub recorded_words : List ℕ → (k : ℕ) → List Found → List ℕ
recorded_words list k [] = list
recorded_words list k (f ∷ fs) = recorded_words (noted_words list k (words f)) (suc k) fs

-- a list of entries in words
unfoldable pub in_words : List EntryRead → List ℕ
in_words [] = []
in_words (e ∷ es) = words_of e ++ in_words es

-- ---- the promise

abbrev pub segment_values : SegmentRead → List ℕ
segment_values s = s.met ∷ s.complete ∷ s.valid_until ∷ []

abbrev pub ReadSegmentAllows : (file : ℕ) → (image : List ℕ) → (before : List EntryRead) → Result SegmentRead Refusal → (after : List EntryRead) → Type 0
ReadSegmentAllows file image before a after = surveyed (reply_of segment_values a) after ≡ read_segment file image before
