-- Each promise allows one answer: the code's answers and their numbers, the cuts' details included, and the state. The idea: `refused_by` and each
-- `…_values` tell their cases apart.
use Rattle.std.specs.Prelude.{List, ◌≡◌, refl, ℕ, Bool, true, false, Option, Some, None, Result, Ok, Err, if◌then◌else◌, ◌==◌}
use Rattle.std.proofs.Common.{sym, ap, ◌∙◌}
use Rattle.entry.specs.declared.Refusal.{Refusal}
use Rattle.entry.specs.declared.Refusal.TheVariants.{Short, Magic, Version, InfoTooLong, NoRoom, NotNow, LowId, BytesOwed, Cut, WrongSum, OutsideImage, OutOfRange}
use Rattle.entry.specs.declared.CutPart.{CutPart}
use Rattle.entry.specs.declared.CutPart.TheVariants.{Header, Data, Crc}
use Rattle.entry.specs.Refusal as numbers
use Rattle.lists.specs.Answers.{refused}
use Rattle.segment_reader.specs.Calls.{Reply, told, cut_short, refusal, cut_number, answer_of, Step}
use Rattle.segment_reader.specs.Promises.{refused_by, reply_of, no_values, entry_values, chunk_values, part_values, read_values, numbers_in, crc_values, whole_values, bytes_of, NewAllows, ReadEntryAllows, ReadChunkAllows, ReadAllows, AfterReadAllows, PartAllows, CheckCrcAllows, SkipAllows, ReadAllChunksAllows, VersionInfoAllows}
use Rattle.segment_reader.specs.declared.SegmentReader.{SegmentReader}
use Rattle.segment_reader.specs.declared.ReadChunkResult.{ReadChunkResult}
use Rattle.segment_reader.specs.declared.ReadChunkResult.TheVariants.{Chunk, EndOfEntry, AbortedEntry}
use Rattle.segment_reader.specs.declared.Part.{Part}
use Rattle.segment_reader.specs.declared.WholeEntry.{WholeEntry}
use Rattle.segment_reader.specs.declared.WholeEntry.TheVariants.{Whole, Aborted}

-- ---- no two refusals are alike

abbrev by_number : ℕ → Refusal
by_number n =
    if n == 1 then Short else if n == 2 then Magic else if n == 3 then Version else if n == 4 then InfoTooLong else if n == 5 then NoRoom
    else if n == 6 then NotNow else if n == 7 then LowId else if n == 8 then BytesOwed else if n == 10 then WrongSum else if n == 11 then OutsideImage
    else OutOfRange

abbrev decoded : Reply → Refusal
decoded (told values) = OutOfRange
decoded (cut_short c) = Cut c
decoded (refusal n) = by_number n

back : (a : Refusal) → decoded (refused_by a) ≡ a
back Short = refl
back Magic = refl
back Version = refl
back InfoTooLong = refl
back NoRoom = refl
back NotNow = refl
back LowId = refl
back BytesOwed = refl
back (Cut c) = refl
back WrongSum = refl
back OutsideImage = refl
back OutOfRange = refl

pub refused-one : (a b : Refusal) → refused_by a ≡ refused_by b → a ≡ b
refused-one a b e = sym (back a) ∙ ap decoded e ∙ back b

-- ---- nor is one an answer

abbrev is_told : Reply → Bool
is_told (told values) = true
is_told (cut_short c) = false
is_told (refusal n) = false

not-told : (a : Refusal) → is_told (refused_by a) ≡ false
not-told Short = refl
not-told Magic = refl
not-told Version = refl
not-told InfoTooLong = refl
not-told NoRoom = refl
not-told NotNow = refl
not-told LowId = refl
not-told BytesOwed = refl
not-told (Cut c) = refl
not-told WrongSum = refl
not-told OutsideImage = refl
not-told OutOfRange = refl

pub never-told : (values : List ℕ) (a : Refusal) → told values ≡ refused_by a → ⊥
never-told values a e = let z : true ≡ false = ap is_told e ∙ not-told a in cc

-- ---- the number of a refusal is document 01's

pub number-by : (a : Refusal) → answer_of (refused_by a) ≡ numbers.answer_of {A = Unit {0}} no_values (Err a)
unfolding answer_of cut_number
number-by Short = refl
number-by Magic = refl
number-by Version = refl
number-by InfoTooLong = refl
number-by NoRoom = refl
number-by NotNow = refl
number-by LowId = refl
number-by BytesOwed = refl
number-by (Cut c) = go c.part refl
  where
    go : (x : CutPart) → c.part ≡ x → answer_of (cut_short c) ≡ refused 9
    go Header e = rw e refl
    go Data e = rw e refl
    go Crc e = rw e refl
number-by WrongSum = refl
number-by OutsideImage = refl
number-by OutOfRange = refl

-- ---- nor are two results, where `values` tells what a call gives apart

pub reply-one : {A : Type 0} (values : A → List ℕ) → ((x y : A) → values x ≡ values y → x ≡ y) → (a b : Result A Refusal) → reply_of values a ≡ reply_of values b → a ≡ b
reply-one values same (Ok x) (Ok y) e = let z : values x ≡ values y = cc in ap Ok (same x y z)
reply-one values same (Ok x) (Err b) e = absurd (never-told (values x) b e)
reply-one values same (Err a) (Ok y) e = absurd (never-told (values y) a (sym e))
reply-one values same (Err a) (Err b) e = ap Err (refused-one a b e)

no-one : (x y : Unit {0}) → no_values x ≡ no_values y → x ≡ y
no-one x y e = refl

entry-one : (x y : Option ℕ) → entry_values x ≡ entry_values y → x ≡ y
entry-one (Some i) (Some j) e = cc
entry-one (Some i) None e = cc
entry-one None (Some j) e = cc
entry-one None None e = refl

chunk-one : (x y : ReadChunkResult) → chunk_values x ≡ chunk_values y → x ≡ y
chunk-one (Chunk m n) (Chunk p q) e = cc
chunk-one (Chunk m n) EndOfEntry e = cc
chunk-one (Chunk m n) AbortedEntry e = cc
chunk-one EndOfEntry (Chunk p q) e = cc
chunk-one EndOfEntry EndOfEntry e = refl
chunk-one EndOfEntry AbortedEntry e = cc
chunk-one AbortedEntry (Chunk p q) e = cc
chunk-one AbortedEntry EndOfEntry e = cc
chunk-one AbortedEntry AbortedEntry e = refl

read_one : (x y : ℕ × ℕ) → read_values x ≡ read_values y → x ≡ y
read_one (a, m) (b, n) e = cc

crc-one : (x y : Bool) → crc_values x ≡ crc_values y → x ≡ y
crc-one true true e = refl
crc-one true false e = cc
crc-one false true e = cc
crc-one false false e = refl

whole_one : (x y : WholeEntry) → whole_values x ≡ whole_values y → x ≡ y
whole_one (Whole m n) (Whole p q) e = cc
whole_one (Whole m n) Aborted e = cc
whole_one Aborted (Whole p q) e = cc
whole_one Aborted Aborted e = refl

pub whole-one : (a b : Result WholeEntry Refusal) → reply_of whole_values a ≡ reply_of whole_values b → a ≡ b
whole-one = reply-one whole_values whole_one

pub opened-one : (a b : Result (Unit {0}) Refusal) → reply_of no_values a ≡ reply_of no_values b → a ≡ b
opened-one = reply-one no_values no-one

pub entered-one : (a b : Result (Option ℕ) Refusal) → reply_of entry_values a ≡ reply_of entry_values b → a ≡ b
entered-one = reply-one entry_values entry-one

-- what is seen of a part: the place that it begins at, and its bytes
abbrev pub seen : Result Part Refusal → Result (ℕ × List ℕ) Refusal
seen (Ok p) = Ok (p.place, p.bytes.now)
seen (Err why) = Err why

seen-one : (a b : Result Part Refusal) → reply_of part_values a ≡ reply_of part_values b → bytes_of a ≡ bytes_of b → seen a ≡ seen b
seen-one (Ok p) (Ok q) e f = let z : p.place ≡ q.place = cc in λ i. Ok (z i, f i)
seen-one (Ok p) (Err b) e f = absurd (never-told _ b e)
seen-one (Err a) (Ok q) e f = absurd (never-told _ a (sym e))
seen-one (Err a) (Err b) e f = ap Err (refused-one a b e)

-- ---- the promises

pub replies : {x y z : Step} → x ≡ z → y ≡ z → x.reply ≡ y.reply
replies p q = ap (λ (s : Step). s.reply) (p ∙ sym q)

pub readers : {x y z : Step} → x ≡ z → y ≡ z → x.reader ≡ y.reader
readers p q = ap (λ (s : Step). s.reader) (p ∙ sym q)

pub new-one-answer : (file : ℕ) (image : List ℕ) (s t : Result (Unit {0}) Refusal) (p q : SegmentReader) → NewAllows file image s p → NewAllows file image t q
    → (s ≡ t) × (p ≡ q)
new-one-answer file image s t p q x y = (reply-one no_values no-one s t (replies x y), readers x y)

module _ (r : SegmentReader) (image : List ℕ) where
  pub read-entry-one-answer : (s t : Result (Option ℕ) Refusal) (p q : SegmentReader) → ReadEntryAllows r image s p → ReadEntryAllows r image t q → (s ≡ t) × (p ≡ q)
  read-entry-one-answer s t p q x y = (entered-one s t (replies x y), readers x y)

  pub read-chunk-one-answer : (s t : Result ReadChunkResult Refusal) (p q : SegmentReader) → ReadChunkAllows r image s p → ReadChunkAllows r image t q
      → (s ≡ t) × (p ≡ q)
  read-chunk-one-answer s t p q x y = (reply-one chunk_values chunk-one s t (replies x y), readers x y)

  pub read-one-answer : (asked : ℕ) (s t : Result Part Refusal) (p q : SegmentReader) → ReadAllows r image asked s p → ReadAllows r image asked t q
      → (seen s ≡ seen t) × (p ≡ q)
  read-one-answer asked s t p q x y = (seen-one s t (replies x.0 y.0) (x.1 ∙ sym y.1), readers x.0 y.0)

  pub after-read-one-answer : (asked : ℕ) (s t : Result (ℕ × ℕ) Refusal) (p q : SegmentReader) → AfterReadAllows r image asked s p → AfterReadAllows r image asked t q
      → (s ≡ t) × (p ≡ q)
  after-read-one-answer asked s t p q x y = (reply-one read_values read_one s t (replies x y), readers x y)

  -- one read gives both
  pub read-gives : (asked : ℕ) (s : Result Part Refusal) (q : SegmentReader) → ReadAllows r image asked s q
      → AfterReadAllows r image asked (numbers_in s) q × PartAllows r image asked (bytes_of s)
  read-gives asked (Ok p) q x = (x.0, x.1)
  read-gives asked (Err why) q x = (x.0, x.1)

  pub part-one-answer : (asked : ℕ) (s t : List ℕ) → PartAllows r image asked s → PartAllows r image asked t → s ≡ t
  part-one-answer asked s t x y = x ∙ sym y

  pub check-crc-one-answer : (s t : Result Bool Refusal) → CheckCrcAllows r image s → CheckCrcAllows r image t → s ≡ t
  check-crc-one-answer s t x y = reply-one crc_values crc-one s t (x ∙ sym y)

  pub skip-one-answer : (s t : Result (Unit {0}) Refusal) (p q : SegmentReader) → SkipAllows r image s p → SkipAllows r image t q → (s ≡ t) × (p ≡ q)
  skip-one-answer s t p q x y = (reply-one no_values no-one s t (replies x y), readers x y)

  pub read-all-chunks-one-answer : (s t : Result WholeEntry Refusal) (p q : SegmentReader) → ReadAllChunksAllows r image s p → ReadAllChunksAllows r image t q
      → (s ≡ t) × (p ≡ q)
  read-all-chunks-one-answer s t p q x y = (whole-one s t (replies x y), readers x y)

  pub version-info-one-answer : (s t : List ℕ) → VersionInfoAllows r image s → VersionInfoAllows r image t → s ≡ t
  version-info-one-answer s t x y = x ∙ sym y
