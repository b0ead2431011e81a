-- A reader's state as 10 words (include/okaywal_segment.h, "Reader state"), there and back.
use Rattle.std.specs.Prelude.{ℕ, zero, suc, Bool, true, cond, List, [], ◌∷◌, length, leb, Result, Ok, Err}
use Rattle.lists.specs.Answers.{all}
use Rattle.entry.specs.declared.Refusal.{Refusal}
use Rattle.entry.specs.declared.Refusal.TheVariants.{OutOfRange}
use Rattle.segment_reader.specs.declared.Moment.{Moment}
use Rattle.segment_reader.specs.declared.Moment.TheVariants.{Between, InEntry, InChunk, Ended}
use Rattle.segment_reader.specs.declared.SegmentReader.{SegmentReader}
use Rattle.okaywal_segment.specs.Words.{word}

-- ---- words from a state: 0 where the moment does not use them

abbrev pub reading_words : Moment → List ℕ
reading_words Between = 0 ∷ 0 ∷ 0 ∷ 0 ∷ 0 ∷ []
reading_words (InEntry id) = 1 ∷ id ∷ 0 ∷ 0 ∷ 0 ∷ []
reading_words (InChunk id mark n owed) = 2 ∷ id ∷ mark ∷ n ∷ owed ∷ []
reading_words Ended = 3 ∷ 0 ∷ 0 ∷ 0 ∷ 0 ∷ []

unfoldable pub reader_words : SegmentReader → List ℕ
reader_words r = r.file_id ∷ r.size ∷ r.version_info_length ∷ r.place ∷ r.valid_until ∷ reading_words r.moment

-- ---- a state from words: those that the moment does not use are not looked at

abbrev pub reading_from : (kind id mark n owed : ℕ) → Moment
reading_from zero id mark n owed = Between
reading_from (suc zero) id mark n owed = InEntry id
reading_from (suc (suc zero)) id mark n owed = InChunk id mark n owed
reading_from (suc (suc (suc k))) id mark n owed = Ended

unfoldable pub reader_from : (words : List ℕ) → SegmentReader
reader_from words =
    record {
      file_id = word 0 words;
      size = word 1 words;
      version_info_length = word 2 words;
      place = word 3 words;
      valid_until = word 4 words;
      moment = reading_from (word 5 words) (word 6 words) (word 7 words) (word 8 words) (word 9 words);
    }

-- ---- the words in their ranges: 5 at most 3, 8 and 9 at most 2^32 - 1 in a chunk

abbrev pub part_fits : (kind n owed : ℕ) → Bool
part_fits zero n owed = true
part_fits (suc zero) n owed = true
part_fits (suc (suc zero)) n owed = all (leb n 4294967295 ∷ leb owed 4294967295 ∷ [])
part_fits (suc (suc (suc k))) n owed = true

unfoldable pub reader_fits : List ℕ → Bool
reader_fits words = all (leb (word 5 words) 3 ∷ part_fits (word 5 words) (word 8 words) (word 9 words) ∷ [])

-- ---- the state that lent words tell: none where the slice is too short or a word out of its range

abbrev pub reader_loaded : (words : List ℕ) → Result SegmentReader Refusal
reader_loaded words = cond (all (leb 10 (length words) ∷ reader_fits words ∷ [])) (Ok (reader_from words)) (Err OutOfRange)
