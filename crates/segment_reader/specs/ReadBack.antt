-- The round trip over the code's own calls: what `read_segment`, which makes them, may answer and record of a segment's bytes.
use Rattle.std.specs.Prelude.{ℕ, suc, ◌+◌, ◌≤◌, ◌≡◌, refl, List, [], ◌∷◌, ◌++◌, length, replicate, Result, Ok}
use Rattle.std.proofs.Common.{arith, zero-add, sym, ap, ap₂, ◌∙◌, le-leb}
use Rattle.entry.specs.Format.{Entry, entry, segment, largest_image}
use Rattle.reading.specs.Reading.{Opened, opens, refuses, opened}
use Rattle.reading.specs.WholeReading
use Rattle.reading.specs.WholeReading.{Found, Reading, read, read_from}
use Rattle.lists.specs.All.{All}
use Rattle.entry.specs.Writable.{Writable}
use Rattle.reading.specs.Yielded.{as_found}
use Rattle.reading.specs.RoundTrip.{round-trip-zeros}
use Rattle.segment_reader.specs.Calls.{Reply, told}
use Rattle.segment_reader.specs.Driver.{one_if, completes, recorded, recorded_words, in_words, surveyed, survey_of, read_opened, read_segment, ReadSegmentAllows}
use Rattle.segment_reader.specs.DriverLaws.{read-segment-one-answer}
use Rattle.segment_reader.specs.WordsLaws.{recorded-words}
use Rattle.segment_reader.specs.declared.survey.SegmentRead.{SegmentRead}
use Rattle.segment_reader.specs.declared.survey.EntryRead.{EntryRead}
use Rattle.entry.specs.declared.Refusal.{Refusal}

-- ---- `read_segment` answers of the whole reading

surveys : (file : ℕ) (image : List ℕ) (list : List EntryRead) (r : Reading) (o : Opened) → WholeReading.read_opened file image o ≡ read r
    → read_opened file image list o ≡ survey_of list 0 0 r
unfolding read_opened WholeReading.read_opened
surveys file image list r (opens v) e = let z : read_from file image (5 + v) ≡ r = cc in ap (survey_of list 0 0) z
surveys file image list r (refuses n) e = let z : ◌≡◌ {A = ℕ} 0 1 = cc in absurd (omega arith)

pub survey-reads : (file : ℕ) (image : List ℕ) (list : List EntryRead) (r : Reading) → length image ≤ largest_image → WholeReading.read_segment file image ≡ read r
    → read_segment file image list ≡ survey_of list 0 0 r
unfolding read_segment WholeReading.read_segment
survey-reads file image list r h e = rw (le-leb _ _ h) (surveys file image list r (opened image) e)

-- ---- of a segment's bytes

length_found : (p : ℕ) (es : List Entry) → length (as_found p es) ≡ length es
unfolding as_found
length_found p [] = refl
length_found p (e ∷ es) = ap suc (length_found (p + length (entry e)) es)

all-complete : (p : ℕ) (es : List Entry) → completes (as_found p es) ≡ length es
unfolding as_found completes one_if
all-complete p [] = refl
all-complete p (e ∷ es) = rw (all-complete (p + length (entry e)) es) (omega arith)

-- each is met and complete, and `valid_until` is their end
abbrev pub all_read : (info : List ℕ) → List Entry → SegmentRead
all_read info es = record { met = length es; complete = length es; valid_until = length (segment info es) }

-- any writable entries, zeros behind them: each is met and complete, in order, and `valid_until` is their end. `recorded` notes each one's id, the
-- place where its chunks begin and how many there are; what stands there are its chunks (`yielded` of `round-trip-zeros`).
pub read_back : (file : ℕ) (info : List ℕ) (es : List Entry) (k : ℕ) → All (Writable file) es → length (segment info es ++ replicate k 0) ≤ largest_image
    → (before : List EntryRead) (a : Result SegmentRead Refusal) (after : List EntryRead) → ReadSegmentAllows file (segment info es ++ replicate k 0) before a after
    → (a ≡ Ok (all_read info es)) × (after ≡ recorded before 0 (as_found (5 + length info) es))
unfolding survey_of
read_back file info es k w h before a after x =
    let image : List ℕ = segment info es ++ replicate k 0 in
    let fs : List Found = as_found (5 + length info) es in
    let r : Reading = record { entries = fs; valid_until = length (segment info es) } in
    let s : read_segment file image before ≡ survey_of before 0 0 r = survey-reads file image before r h (round-trip-zeros file info es w k).0 in
    let m : 0 + length fs ≡ length es = zero-add _ ∙ length_found _ es in
    let c : 0 + completes fs ≡ length es = zero-add _ ∙ all-complete _ es in
    read-segment-one-answer file image before a (Ok (all_read info es)) after (recorded before 0 fs) x
    (sym (s ∙ ap (λ (t : Reply). surveyed t (recorded before 0 fs)) (ap told (ap₂ ◌∷◌ m (ap (λ (j : ℕ). j ∷ length (segment info es) ∷ []) c)))))

-- the list in words: four words an entry, as `recorded_words` notes them
pub read_back_words : (file : ℕ) (info : List ℕ) (es : List Entry) (k : ℕ) → All (Writable file) es → length (segment info es ++ replicate k 0) ≤ largest_image
    → (before : List EntryRead) (a : Result SegmentRead Refusal) (after : List EntryRead) → ReadSegmentAllows file (segment info es ++ replicate k 0) before a after
    → (a ≡ Ok (all_read info es)) × (in_words after ≡ recorded_words (in_words before) 0 (as_found (5 + length info) es))
read_back_words file info es k w h before a after x =
    let r = read_back file info es k w h before a after x in (r.0, ap in_words r.1 ∙ recorded-words before 0 (as_found (5 + length info) es))
