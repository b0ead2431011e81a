-- A state to words to a state is the same state; words to a state to words are the same words, 0 where the moment does not use them.
use Rattle.std.specs.Prelude.{ℕ, zero, suc, ◌≤◌, ◌≡◌, refl, true, List, [], ◌∷◌, ◌++◌, length, leb}
use Rattle.std.proofs.Common.{arith, append-nil, leb-true}
use Rattle.lists.specs.Lay.{lay}
use Rattle.lists.specs.LayLaws.{lay-fits}
use Rattle.lists.specs.AnswersLaws.{every}
use Rattle.segment_reader.specs.declared.Moment.{Moment}
use Rattle.segment_reader.specs.declared.Moment.TheVariants.{Between, InEntry, InChunk, Ended}
use Rattle.segment_reader.specs.declared.SegmentReader.{SegmentReader}
use Rattle.segment_reader.specs.Calls.{zeros}
use Rattle.okaywal_segment.specs.Words.{word}
use Rattle.okaywal_segment.specs.ReaderWords.{reading_words, reader_words, reading_from, reader_from, part_fits, reader_fits}

-- ---- a state to words to a state

moment-back : (m : Moment) (rest : List ℕ)
    → reading_from
    (word 0 (reading_words m ++ rest))
    (word 1 (reading_words m ++ rest))
    (word 2 (reading_words m ++ rest))
    (word 3 (reading_words m ++ rest))
    (word 4 (reading_words m ++ rest))
    ≡ m
moment-back Between rest = refl
moment-back (InEntry id) rest = refl
moment-back (InChunk id mark n owed) rest = refl
moment-back Ended rest = refl

-- whatever stands behind the words
words-read : (r : SegmentReader) (rest : List ℕ) → reader_from (reader_words r ++ rest) ≡ r
unfolding reader_from reader_words
words-read r rest =
    let m = moment-back r.moment rest in
    λ j. record {
      file_id = r.file_id;
      size = r.size;
      version_info_length = r.version_info_length;
      place = r.place;
      valid_until = r.valid_until;
      moment = m j;
    }

pub reader-back : (r : SegmentReader) → reader_from (reader_words r) ≡ r
reader-back r = rw append-nil at (words-read r [])

pub length-reader_words : (r : SegmentReader) → length (reader_words r) ≡ 10
unfolding reader_words
length-reader_words r = let e = go r.moment in omega arith
  where
    go : (m : Moment) → length (reading_words m) ≡ 5
    go Between = refl
    go (InEntry id) = refl
    go (InChunk id mark n owed) = refl
    go Ended = refl

-- the next call sees the state that the last one left
pub next-sees : (state : List ℕ) (r : SegmentReader) → 10 ≤ length state → reader_from (lay state 0 (reader_words r)) ≡ r
next-sees state r h =
    let l = length-reader_words r in
    rw (lay-fits state 0 (reader_words r) (omega arith)) (words-read r _)

-- ---- words to a state to words

-- words 5 to 9, with 0 for those that are not looked at
abbrev pub used_reading : (kind id mark n owed : ℕ) → List ℕ
used_reading zero id mark n owed = 0 ∷ 0 ∷ 0 ∷ 0 ∷ 0 ∷ []
used_reading (suc zero) id mark n owed = 1 ∷ id ∷ 0 ∷ 0 ∷ 0 ∷ []
used_reading (suc (suc zero)) id mark n owed = 2 ∷ id ∷ mark ∷ n ∷ owed ∷ []
used_reading (suc (suc (suc k))) id mark n owed = suc (suc (suc k)) ∷ 0 ∷ 0 ∷ 0 ∷ 0 ∷ []

-- the 10 words, 0 where the moment does not use them
unfoldable pub used_words : List ℕ → List ℕ
used_words words =
    word 0 words ∷ word 1 words ∷ word 2 words ∷ word 3 words ∷ word 4 words
    ∷ used_reading (word 5 words) (word 6 words) (word 7 words) (word 8 words) (word 9 words)

moment-words : (kind id mark n owed : ℕ) → kind ≤ 3 → reading_words (reading_from kind id mark n owed) ≡ used_reading kind id mark n owed
moment-words zero id mark n owed h = refl
moment-words (suc zero) id mark n owed h = refl
moment-words (suc (suc zero)) id mark n owed h = refl
moment-words (suc (suc (suc zero))) id mark n owed h = refl
moment-words (suc (suc (suc (suc k)))) id mark n owed h = absurd (omega arith)

pub words_back : (words : List ℕ) → reader_fits words ≡ true → reader_words (reader_from words) ≡ used_words words
unfolding reader_from reader_words reader_fits used_words
words_back words e =
    let z = every (leb (word 5 words) 3 ∷ part_fits (word 5 words) (word 8 words) (word 9 words) ∷ []) e in
    rw (moment-words (word 5 words) (word 6 words) (word 7 words) (word 8 words) (word 9 words) (leb-true (word 5 words) 3 z.0))

-- ---- words that the moment does not use are not looked at

-- the first five words, and the other five
abbrev pub reader_of : (words rest : List ℕ) → SegmentReader
reader_of words rest =
    record {
      file_id = word 0 words;
      size = word 1 words;
      version_info_length = word 2 words;
      place = word 3 words;
      valid_until = word 4 words;
      moment = reading_from (word 0 rest) (word 1 rest) (word 2 rest) (word 3 rest) (word 4 rest);
    }

pub unused-not-seen : (words : List ℕ) → reader_from (used_words words) ≡ reader_from words
unfolding reader_from used_words
unused-not-seen words = go (word 5 words) (word 6 words) (word 7 words) (word 8 words) (word 9 words)
  where
    go : (kind id mark n owed : ℕ) → reader_of words (used_reading kind id mark n owed) ≡ reader_of words (kind ∷ id ∷ mark ∷ n ∷ owed ∷ [])
    go zero id mark n owed = refl
    go (suc zero) id mark n owed = refl
    go (suc (suc zero)) id mark n owed = refl
    go (suc (suc (suc k))) id mark n owed = refl

-- ---- a refused opening: zeros, but word 5 is 3

pub zeros-words : reader_words zeros ≡ 0 ∷ 0 ∷ 0 ∷ 0 ∷ 0 ∷ 3 ∷ 0 ∷ 0 ∷ 0 ∷ 0 ∷ []
unfolding reader_words
zeros-words = refl
