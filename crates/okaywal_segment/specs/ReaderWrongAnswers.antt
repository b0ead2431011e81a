-- The segment of `WriterWrongAnswers` read across the boundary: what each function of a reader may return and leave there, computed from the definitions,
-- and wrong answers that its promise does not allow. The 02 of its chunk stands at 15, the sum at 23, the 03 at 27.
use Rattle.std.specs.Prelude.{ℕ, refl, List, [], ◌∷◌, ◌++◌, replicate}
use Rattle.lists.specs.Lay.{lay}
use Rattle.lists.specs.Walk.{walk, around}
use Rattle.lists.specs.Numbers.{from_le, number}
use Rattle.crc32c.specs.Crc.{bit_step, steps, byte_step, update, crc_append}
use Rattle.entry.specs.Format.{covered, chunk_sum}
use Rattle.reading.specs.Reading.{standing, also, whole_turn, whole, left, lead, opened}
use Rattle.segment_reader.specs.State.{stands_at, in_place, fit, leaving, start_of, holding, open_of}
use Rattle.segment_reader.specs.Calls.{answer_of, resting, opened_with, new, entry_met, entry_from, read_entry, chunk_met, chunk_from, read_chunk, read_in, read, check_at, check_in, check_crc, skip_in, skip_remaining, whole_reply, whole_from, read_all_chunks, read_by}
use Rattle.okaywal_segment.specs.Words.{word}
use Rattle.okaywal_segment.specs.ReaderWords.{reader_words, reader_from, reader_fits}
use Rattle.okaywal_segment.specs.ReaderCrossing.{Read, crossed, opened_reader}
use Rattle.okaywal_segment.specs.ReaderPromises.{OpenAllows, EntryAllows, ChunkAllows, DataAllows, CheckCrcAllows, SkipAllows, WholeAllows}
use Rattle.okaywal_segment.specs.WrongAnswers.{apart}
use Rattle.okaywal_segment.specs.WriterWrongAnswers.{header, filled, flushed_image, old}

-- ---- the image is the one that the writer left; another has a wrong sum

abbrev pub damaged : List ℕ
damaged = header ++ filled ++ (0x67 ∷ 0xDF ∷ 0x32 ∷ 0 ∷ []) ++ (3 ∷ []) ++ replicate 4 0

-- ---- the words

abbrev pub state : (place : ℕ) (moment : List ℕ) → List ℕ
state p moment = 4 ∷ 32 ∷ 1 ∷ p ∷ 6 ∷ moment

abbrev pub between : List ℕ
between = replicate 5 0

abbrev pub in_entry : List ℕ
in_entry = 1 ∷ 7 ∷ 0 ∷ 0 ∷ 0 ∷ []

abbrev pub in_chunk : (owed : ℕ) → List ℕ
in_chunk owed = 2 ∷ 7 ∷ 15 ∷ 3 ∷ owed ∷ []

-- ---- the calls

abbrev pub Open : (image : List ℕ) (number : ℕ) (state' : List ℕ) → Type 0
Open image = OpenAllows (replicate 10 9) image 4

abbrev pub Entry : (number : ℕ) (state' answer' : List ℕ) → Type 0
Entry = EntryAllows (state 6 between) flushed_image old

abbrev pub Chunk : (number : ℕ) (state' answer' : List ℕ) → Type 0
Chunk = ChunkAllows (state 15 in_entry) flushed_image old

-- two bytes
abbrev pub Data : (number : ℕ) (state' answer' : List ℕ) → Type 0
Data = DataAllows (state 20 (in_chunk 3)) flushed_image 2 old

abbrev pub CheckCrc : (number : ℕ) (answer' : List ℕ) → Type 0
CheckCrc = CheckCrcAllows (state 23 (in_chunk 0)) damaged old

-- behind two bytes
abbrev pub Skip : (number : ℕ) (state' : List ℕ) → Type 0
Skip = SkipAllows (state 22 (in_chunk 1)) flushed_image

abbrev pub Whole : (image : List ℕ) (number : ℕ) (state' answer' : List ℕ) → Type 0
Whole image = WholeAllows (state 15 in_entry) image old

-- ---- what is allowed

pub record Right : Type 0 where
  pub opens : Open flushed_image 0 (state 6 between)
  pub open_refused : Open (0x6F ∷ 0x6B ∷ 0x78 ∷ 0 ∷ 0 ∷ []) 2 (0 ∷ 0 ∷ 0 ∷ 0 ∷ 0 ∷ 3 ∷ 0 ∷ 0 ∷ 0 ∷ 0 ∷ [])
  pub enters : Entry 0 (state 15 in_entry) (1 ∷ 7 ∷ 0 ∷ 0 ∷ [])
  pub meets_chunk : Chunk 0 (state 20 (in_chunk 3)) (1 ∷ 15 ∷ 3 ∷ 0 ∷ [])
  pub reads_two : Data 0 (state 22 (in_chunk 1)) (20 ∷ 2 ∷ 0 ∷ 0 ∷ [])
  pub finds_wrong : CheckCrc 0 (replicate 4 0)
  pub skips : Skip 0 (state 27 in_entry)
  pub is_whole : Whole flushed_image 0 (state 28 in_entry) (1 ∷ 15 ∷ 1 ∷ 0 ∷ [])
  pub wrong_sum : Whole damaged 10 (state 27 in_entry) (replicate 4 0)

pub right : Right
unfolding opened_reader crossed reader_from reader_fits reader_words lay read_by answer_of new opened opened_with read_entry entry_from entry_met lead read_chunk chunk_from chunk_met standing read read_in check_crc check_in check_at skip_remaining skip_in read_all_chunks whole_from whole_reply resting left start_of open_of holding fit in_place stands_at leaving whole whole_turn also walk around number from_le chunk_sum covered crc_append update byte_step steps bit_step
right =
    record {
      opens = refl;
      open_refused = refl;
      enters = refl;
      meets_chunk = refl;
      reads_two = refl;
      finds_wrong = refl;
      skips = refl;
      is_whole = refl;
      wrong_sum = refl;
    }

-- ---- what is not

pub record Refuted : Type 0 where
  -- the file id is not stored; a refused opening is not ended
  pub open_file_forgotten : Open flushed_image 0 (0 ∷ 32 ∷ 1 ∷ 6 ∷ 6 ∷ between) → ⊥
  pub open_refused_not_ended : Open (0x6F ∷ 0x6B ∷ 0x78 ∷ 0 ∷ 0 ∷ []) 2 (replicate 10 0) → ⊥
  -- the id stands first; the entry counts as valid before it is read
  pub entry_id_first : Entry 0 (state 15 in_entry) (7 ∷ 1 ∷ 0 ∷ 0 ∷ []) → ⊥
  pub entry_valid_early : Entry 0 (4 ∷ 32 ∷ 1 ∷ 15 ∷ 15 ∷ in_entry) (1 ∷ 7 ∷ 0 ∷ 0 ∷ []) → ⊥
  -- the offset is that of the data; nothing is owed
  pub chunk_data_told : Chunk 0 (state 20 (in_chunk 3)) (1 ∷ 20 ∷ 3 ∷ 0 ∷ []) → ⊥
  pub chunk_owes_nothing : Chunk 0 (state 20 (in_chunk 0)) (1 ∷ 15 ∷ 3 ∷ 0 ∷ []) → ⊥
  -- the place behind the part; owed is not counted down
  pub data_place_behind : Data 0 (state 22 (in_chunk 1)) (22 ∷ 2 ∷ 0 ∷ 0 ∷ []) → ⊥
  pub data_owed_left : Data 0 (state 22 (in_chunk 3)) (20 ∷ 2 ∷ 0 ∷ 0 ∷ []) → ⊥
  -- a wrong sum is right; it is refused
  pub check_crc_right : CheckCrc 0 (1 ∷ 0 ∷ 0 ∷ 0 ∷ []) → ⊥
  pub check_crc_refused : CheckCrc 10 (replicate 4 0) → ⊥
  -- the sum is not passed; the words of the chunk are left
  pub skip_to_sum : Skip 0 (state 23 in_entry) → ⊥
  pub skip_words_left : Skip 0 (state 27 (1 ∷ 7 ∷ 15 ∷ 3 ∷ 1 ∷ [])) → ⊥
  -- the 03 counts as a chunk; 10 writes no state word
  pub whole_one_more : Whole flushed_image 0 (state 28 in_entry) (1 ∷ 15 ∷ 2 ∷ 0 ∷ []) → ⊥
  pub whole_ten_stays : Whole damaged 10 (state 15 in_entry) (replicate 4 0) → ⊥

abbrev state_word : ℕ → Read → ℕ
state_word i r = word i r.state

abbrev answer_word : ℕ → Read → ℕ
answer_word i r = word i r.answer

pub refuted : Refuted
refuted =
    record {
      open_file_forgotten = apart (state_word 0) right.opens refl;
      open_refused_not_ended = apart (state_word 5) right.open_refused refl;
      entry_id_first = apart (answer_word 0) right.enters refl;
      entry_valid_early = apart (state_word 4) right.enters refl;
      chunk_data_told = apart (answer_word 1) right.meets_chunk refl;
      chunk_owes_nothing = apart (state_word 9) right.meets_chunk refl;
      data_place_behind = apart (answer_word 0) right.reads_two refl;
      data_owed_left = apart (state_word 9) right.reads_two refl;
      check_crc_right = apart (answer_word 0) right.finds_wrong refl;
      check_crc_refused = apart (λ (r : Read). r.number) right.finds_wrong refl;
      skip_to_sum = apart (state_word 3) right.skips refl;
      skip_words_left = apart (state_word 7) right.skips refl;
      whole_one_more = apart (answer_word 2) right.is_whole refl;
      whole_ten_stays = apart (state_word 3) right.wrong_sum refl;
    }
