-- A state to words to a state is the same state; words to a state to words are the same words, 0 where the moment does not use them.
use Rattle.std.specs.Prelude.{ℕ, zero, suc, ◌≤◌, ◌≡◌, refl, true, List, [], ◌∷◌, ◌++◌, length, take, replicate, leb, Option, Some, None}
use Rattle.std.proofs.Common.{arith, append-nil, take_all, leb-true}
use Rattle.lists.specs.Lay.{lay}
use Rattle.lists.specs.LayLaws.{lay-fits}
use Rattle.lists.specs.AnswersLaws.{every}
use Rattle.log_file.specs.declared.Moment.{Moment}
use Rattle.log_file.specs.declared.Moment.TheVariants.{Idle, InEntry, InChunk}
use Rattle.log_file.specs.declared.LogFileWriter.{LogFileWriter}
use Rattle.log_file.specs.Opening.{blank}
use Rattle.okaywal_segment.specs.Words.{word}
use Rattle.okaywal_segment.specs.WriterWords.{last_known, last_of, moment_words, writer_words, last_from, moment_from, writer_from, chunk_fits, writer_fits}

-- ---- a state to words to a state

last-back : (l : Option ℕ) → last_from (last_known l) (last_of l) ≡ l
last-back None = refl
last-back (Some id) = refl

moment-back : (m : Moment) (rest : List ℕ)
    → moment_from
    (word 0 (moment_words m ++ rest))
    (word 1 (moment_words m ++ rest))
    (word 2 (moment_words m ++ rest))
    (word 3 (moment_words m ++ rest))
    (word 4 (moment_words m ++ rest))
    (word 5 (moment_words m ++ rest))
    ≡ m
moment-back Idle rest = refl
moment-back (InEntry id start) rest = refl
moment-back (InChunk id start n owed crc) rest = refl

-- whatever stands behind the words
words-read : (w : LogFileWriter) (rest info : List ℕ) → take 255 info ≡ w.info → writer_from (writer_words w ++ rest) info ≡ w
unfolding writer_from writer_words
words-read w rest info i =
    let l = last-back w.last in
    let m = moment-back w.moment rest in
    λ j. record {
      id = w.id;
      info = i j;
      info_length = w.info_length;
      size = w.size;
      capacity = w.capacity;
      file = w.file;
      last = l j;
      moment = m j;
    }

pub state-back : (w : LogFileWriter) → length w.info ≡ 255 → writer_from (writer_words w) w.info ≡ w
state-back w e = rw append-nil at (words-read w [] w.info (take_all 255 w.info (omega arith)))

pub length-writer_words : (w : LogFileWriter) → length (writer_words w) ≡ 16
unfolding writer_words
length-writer_words w = let e = go w.moment in omega arith
  where
    go : (m : Moment) → length (moment_words m) ≡ 6
    go Idle = refl
    go (InEntry id start) = refl
    go (InChunk id start n owed crc) = refl

-- the next call sees the state that the last one left
pub next-sees : (state info : List ℕ) (w : LogFileWriter) → 16 ≤ length state → take 255 info ≡ w.info → writer_from (lay state 0 (writer_words w)) info ≡ w
next-sees state info w h e =
    let l = length-writer_words w in
    rw (lay-fits state 0 (writer_words w) (omega arith)) (words-read w _ info e)

-- ---- words to a state to words

-- words 8 and 9, and words 10 to 15, with 0 for those that are not looked at
abbrev pub used_last : (known id : ℕ) → List ℕ → List ℕ
used_last zero id rest = 0 ∷ 0 ∷ rest
used_last (suc k) id rest = suc k ∷ id ∷ rest

abbrev pub used_moment : (kind id start n owed crc : ℕ) → List ℕ
used_moment zero id start n owed crc = 0 ∷ 0 ∷ 0 ∷ 0 ∷ 0 ∷ 0 ∷ []
used_moment (suc zero) id start n owed crc = 1 ∷ id ∷ start ∷ 0 ∷ 0 ∷ 0 ∷ []
used_moment (suc (suc k)) id start n owed crc = suc (suc k) ∷ id ∷ start ∷ n ∷ owed ∷ crc ∷ []

-- the 16 words, 0 where the moment does not use them
unfoldable pub used_words : List ℕ → List ℕ
used_words words =
    word 0 words ∷ word 1 words ∷ word 2 words ∷ word 3 words ∷ word 4 words ∷ word 5 words ∷ word 6 words ∷ word 7 words
    ∷ used_last (word 8 words) (word 9 words)
    (used_moment (word 10 words) (word 11 words) (word 12 words) (word 13 words) (word 14 words) (word 15 words))

last-words : (k id : ℕ) (rest : List ℕ) → k ≤ 1 → last_known (last_from k id) ∷ last_of (last_from k id) ∷ rest ≡ used_last k id rest
last-words zero id rest h = refl
last-words (suc zero) id rest h = refl
last-words (suc (suc k)) id rest h = absurd (omega arith)

moment-words : (kind id start n owed crc : ℕ) → kind ≤ 2 → moment_words (moment_from kind id start n owed crc) ≡ used_moment kind id start n owed crc
moment-words zero id start n owed crc h = refl
moment-words (suc zero) id start n owed crc h = refl
moment-words (suc (suc zero)) id start n owed crc h = refl
moment-words (suc (suc (suc k))) id start n owed crc h = absurd (omega arith)

pub words_back : (words info : List ℕ) → writer_fits words ≡ true → writer_words (writer_from words info) ≡ used_words words
unfolding writer_from writer_words writer_fits used_words
words_back words info e =
    let z = every (leb (word 8 words) 1 ∷ leb (word 10 words) 2 ∷ chunk_fits (word 10 words) (word 13 words) (word 14 words) (word 15 words) ∷ []) e in
    rw (
      moment-words (word 10 words) (word 11 words) (word 12 words) (word 13 words) (word 14 words) (word 15 words) (leb-true (word 10 words) 2 z.1.0),
      last-words (word 8 words) (word 9 words) _ (leb-true (word 8 words) 1 z.0),
    )

-- ---- words that the moment does not use are not looked at

-- the first eight words, and the other eight
abbrev pub writer_of : (words info rest : List ℕ) → LogFileWriter
writer_of words info rest =
    record {
      id = word 0 words;
      info = take 255 info;
      info_length = word 1 words;
      size = word 2 words;
      capacity = word 3 words;
      file = record { length = word 4 words; position = word 5 words; staged = word 6 words; synchronized = word 7 words };
      last = last_from (word 0 rest) (word 1 rest);
      moment = moment_from (word 2 rest) (word 3 rest) (word 4 rest) (word 5 rest) (word 6 rest) (word 7 rest);
    }

pub unused-not-seen : (words info : List ℕ) → writer_from (used_words words) info ≡ writer_from words info
unfolding writer_from used_words
unused-not-seen words info =
    go (word 8 words) (word 9 words) (word 10 words) (word 11 words) (word 12 words) (word 13 words) (word 14 words) (word 15 words)
  where
    go : (k id kind e s n o c : ℕ)
        → writer_of words info (used_last k id (used_moment kind e s n o c)) ≡ writer_of words info (k ∷ id ∷ kind ∷ e ∷ s ∷ n ∷ o ∷ c ∷ [])
    go zero id zero e s n o c = refl
    go zero id (suc zero) e s n o c = refl
    go zero id (suc (suc kind)) e s n o c = refl
    go (suc k) id zero e s n o c = refl
    go (suc k) id (suc zero) e s n o c = refl
    go (suc k) id (suc (suc kind)) e s n o c = refl

-- ---- a refused opening

pub blank-words : writer_words blank ≡ replicate 16 0
unfolding writer_words
blank-words = refl
