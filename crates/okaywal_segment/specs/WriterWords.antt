-- A writer's state as 16 words and 255 bytes of version info (include/okaywal_segment.h, "Writer state"), there and back.
use Rattle.std.specs.Prelude.{ℕ, zero, suc, Bool, true, cond, List, [], ◌∷◌, length, take, leb, Option, Some, None, Result, Ok, Err}
use Rattle.lists.specs.Answers.{all}
use Rattle.entry.specs.declared.Refusal.{Refusal}
use Rattle.entry.specs.declared.Refusal.TheVariants.{OutOfRange}
use Rattle.log_file.specs.declared.Moment.{Moment}
use Rattle.log_file.specs.declared.Moment.TheVariants.{Idle, InEntry, InChunk}
use Rattle.log_file.specs.declared.LogFileWriter.{LogFileWriter}
use Rattle.okaywal_segment.specs.Words.{word}

-- ---- words from a state: 0 where the moment does not use them

abbrev pub last_known : Option ℕ → ℕ
last_known None = 0
last_known (Some id) = 1

abbrev pub last_of : Option ℕ → ℕ
last_of None = 0
last_of (Some id) = id

abbrev pub moment_words : Moment → List ℕ
moment_words Idle = 0 ∷ 0 ∷ 0 ∷ 0 ∷ 0 ∷ 0 ∷ []
moment_words (InEntry id start) = 1 ∷ id ∷ start ∷ 0 ∷ 0 ∷ 0 ∷ []
moment_words (InChunk id start n owed crc) = 2 ∷ id ∷ start ∷ n ∷ owed ∷ crc ∷ []

unfoldable pub writer_words : LogFileWriter → List ℕ
writer_words w =
    w.id ∷ w.info_length ∷ w.size ∷ w.capacity ∷ w.file.length ∷ w.file.position ∷ w.file.staged ∷ w.file.synchronized
    ∷ last_known w.last ∷ last_of w.last ∷ moment_words w.moment

-- ---- a state from words: those that the moment does not use are not looked at

abbrev pub last_from : (known id : ℕ) → Option ℕ
last_from zero id = None
last_from (suc k) id = Some id

abbrev pub moment_from : (kind id start n owed crc : ℕ) → Moment
moment_from zero id start n owed crc = Idle
moment_from (suc zero) id start n owed crc = InEntry id start
moment_from (suc (suc k)) id start n owed crc = InChunk id start n owed crc

unfoldable pub writer_from : (words info : List ℕ) → LogFileWriter
writer_from words info =
    record {
      id = word 0 words;
      info = take 255 info;
      info_length = word 1 words;
      size = word 2 words;
      capacity = word 3 words;
      file = record { length = word 4 words; position = word 5 words; staged = word 6 words; synchronized = word 7 words };
      last = last_from (word 8 words) (word 9 words);
      moment = moment_from (word 10 words) (word 11 words) (word 12 words) (word 13 words) (word 14 words) (word 15 words);
    }

-- ---- the words in their ranges: 8 at most 1, 10 at most 2, 13 to 15 at most 2^32 - 1 in a chunk

abbrev pub chunk_fits : (kind n owed crc : ℕ) → Bool
chunk_fits zero n owed crc = true
chunk_fits (suc zero) n owed crc = true
chunk_fits (suc (suc k)) n owed crc = all (leb n 4294967295 ∷ leb owed 4294967295 ∷ leb crc 4294967295 ∷ [])

unfoldable pub writer_fits : List ℕ → Bool
writer_fits words =
    all (leb (word 8 words) 1 ∷ leb (word 10 words) 2 ∷ chunk_fits (word 10 words) (word 13 words) (word 14 words) (word 15 words) ∷ [])

-- ---- the state that lent words tell: none where a slice is too short or a word out of its range

abbrev pub loaded : (words info : List ℕ) → Result LogFileWriter Refusal
loaded words info = cond (all (leb 16 (length words) ∷ leb 255 (length info) ∷ writer_fits words ∷ [])) (Ok (writer_from words info)) (Err OutOfRange)
