-- One segment written across the boundary, from its opening to its recycling: what each function of a writer may return and leave, computed from the
-- definitions, and wrong answers that its promise does not allow. A call begins where one before it ended. The segment 4 has 32 bytes and one byte of version
-- info; its entry 7 has one chunk, 7, 8, 9.
use Rattle.std.specs.Prelude.{ℕ, refl, List, [], ◌∷◌, ◌++◌, drop, replicate, negsuc}
use Rattle.lists.specs.Lay.{lay}
use Rattle.lists.specs.Numbers.{le}
use Rattle.crc32c.specs.Crc.{bit_step, steps, byte_step, update, crc_append}
use Rattle.entry.specs.Format.{covered, chunk_sum}
use Rattle.buffered.specs.Staging.{flushed, staged, emptied, rounds, written, written_all, back_to, synchronized}
use Rattle.log_file.specs.State.{ruled, valid}
use Rattle.log_file.specs.Calls.{checks, refusal, reports, writes, worked, moment_after, last_after, id_after, acted, called}
use Rattle.log_file.specs.Opening.{padded, open_refusal, prepared, unheaded, headed, opened_machine, opened}
use Rattle.okaywal_segment.specs.Words.{word}
use Rattle.okaywal_segment.specs.WriterWords.{writer_words, writer_from, writer_fits}
use Rattle.okaywal_segment.specs.Crossing.{Left, crossed}
use Rattle.okaywal_segment.specs.OpeningCrossing.{request, Start, opening_of, started, OpenAllows}
use Rattle.okaywal_segment.specs.WriterPromises.{BeginAllows, BeginChunkAllows, WriteAllows, FinishAllows, CommitAllows, RollbackAllows, RecycleAllows, FlushAllows, SyncAllows, LandStartAllows, LandEndAllows, LandCurrentAllows}
use Rattle.okaywal_segment.specs.WrongAnswers.{apart}

-- ---- the bytes: the header; 01 and the id; with 02 and the length; with the data; with the sum; with 03

abbrev pub header : List ℕ
header = 0x6F ∷ 0x6B ∷ 0x77 ∷ 0 ∷ 1 ∷ 0x41 ∷ []

abbrev pub begun : List ℕ
begun = 1 ∷ 7 ∷ 0 ∷ 0 ∷ 0 ∷ 0 ∷ 0 ∷ 0 ∷ 0 ∷ []

abbrev pub chunk_begun : List ℕ
chunk_begun = begun ++ (2 ∷ 3 ∷ 0 ∷ 0 ∷ 0 ∷ [])

abbrev pub filled : List ℕ
filled = chunk_begun ++ (7 ∷ 8 ∷ 9 ∷ [])

abbrev pub finished : List ℕ
finished = filled ++ (0x67 ∷ 0xDF ∷ 0x32 ∷ 0xF1 ∷ [])

abbrev pub entry : List ℕ
entry = finished ++ (3 ∷ [])

-- the image before the entry is flushed, and after
abbrev pub image : List ℕ
image = header ++ replicate 26 0

abbrev pub flushed_image : List ℕ
flushed_image = header ++ entry ++ replicate 4 0

-- bytes, and zeros behind them
abbrev pub staging : (bytes : List ℕ) (rest : ℕ) → List ℕ
staging bytes rest = bytes ++ replicate rest 0

-- ---- the words

abbrev pub info : List ℕ
info = 0x41 ∷ replicate 254 0

-- words 4 to 7 are given; the last id is not known
abbrev pub state : (length position staged synchronized : ℕ) (moment : List ℕ) → List ℕ
state l p g y moment = 4 ∷ 1 ∷ 32 ∷ 24 ∷ l ∷ p ∷ g ∷ y ∷ 0 ∷ 0 ∷ moment

abbrev pub idle : List ℕ
idle = replicate 6 0

abbrev pub in_entry : List ℕ
in_entry = 1 ∷ 7 ∷ 6 ∷ 0 ∷ 0 ∷ 0 ∷ []

abbrev pub in_chunk : (owed crc : ℕ) → List ℕ
in_chunk owed crc = 2 ∷ 7 ∷ 6 ∷ 3 ∷ owed ∷ crc ∷ []

-- the last id is 7
abbrev pub committed : (length position staged synchronized : ℕ) → List ℕ
committed l p g y = 4 ∷ 1 ∷ 32 ∷ 24 ∷ l ∷ p ∷ g ∷ y ∷ 1 ∷ 7 ∷ idle

-- as the segment 5: a header is staged
abbrev pub recycled : (synchronized known last : ℕ) → List ℕ
recycled y known last = 5 ∷ 1 ∷ 32 ∷ 24 ∷ 28 ∷ 0 ∷ 6 ∷ y ∷ known ∷ last ∷ idle

-- an answer before the call
abbrev pub old : List ℕ
old = replicate 4 9

-- ---- the calls

-- an empty file, padded to 8 bytes; the last id is 3 where it is known
abbrev pub Open : (known : ℕ) (number : ℕ) (state' info' image' staging' : List ℕ) → Type 0
Open known = OpenAllows (replicate 16 9) (replicate 255 9) (replicate 32 0) (replicate 24 0) (request (0x41 ∷ []) 4 known 3 0 0 8)

abbrev pub Begin : (id : ℕ) (number : ℕ) (state' image' staging' : List ℕ) → Type 0
Begin id = BeginAllows (state 8 6 0 0 idle) info image (staging header 18) id

abbrev pub BeginChunk : (number : ℕ) (state' image' staging' : List ℕ) → Type 0
BeginChunk = BeginChunkAllows (state 8 6 9 0 in_entry) info image (staging begun 15) 3

-- four bytes are offered, three owed
abbrev pub Write : (number : ℕ) (state' image' staging' answer' : List ℕ) → Type 0
Write = WriteAllows (state 8 6 14 0 (in_chunk 3 0)) info image (staging chunk_begun 10) (7 ∷ 8 ∷ 9 ∷ 10 ∷ []) old

abbrev pub Finish : (number : ℕ) (state' image' staging' answer' : List ℕ) → Type 0
Finish = FinishAllows (state 8 6 17 0 (in_chunk 0 0xF132_DF67)) info image (staging filled 7) old

abbrev pub Commit : (number : ℕ) (state' image' staging' answer' : List ℕ) → Type 0
Commit = CommitAllows (state 8 6 21 0 in_entry) info image (staging finished 3) old

-- in the chunk
abbrev pub Rollback : (number : ℕ) (state' image' staging' : List ℕ) → Type 0
Rollback = RollbackAllows (state 8 6 17 0 (in_chunk 0 0xF132_DF67)) info image (staging filled 7)

abbrev pub Flush : (number : ℕ) (state' image' staging' : List ℕ) → Type 0
Flush = FlushAllows (committed 8 6 22 0) info image (staging entry 2)

abbrev pub Sync : (number : ℕ) (state' image' staging' : List ℕ) → Type 0
Sync = SyncAllows (committed 8 6 22 0) info image (staging entry 2) 28

-- as the segment 5
abbrev pub Recycle : (number : ℕ) (state' image' staging' : List ℕ) → Type 0
Recycle = RecycleAllows (committed 28 28 0 28) info flushed_image (staging entry 2) 5

abbrev pub LandStart : (number : ℕ) (answer' : List ℕ) → Type 0
LandStart = LandStartAllows (committed 8 6 22 0) info image (staging entry 2) 30 old

-- 3 before the end of the file, and 9
abbrev pub LandEnd : (number : ℕ) (answer' : List ℕ) → Type 0
LandEnd = LandEndAllows (committed 8 6 22 0) info image (staging entry 2) (negsuc 2) old

abbrev pub LandBelow : (number : ℕ) (answer' : List ℕ) → Type 0
LandBelow = LandEndAllows (committed 8 6 22 0) info image (staging entry 2) (negsuc 8) old

-- 3 before the logical position
abbrev pub LandCurrent : (answer : List ℕ) (number : ℕ) (answer' : List ℕ) → Type 0
LandCurrent = LandCurrentAllows (committed 8 6 22 0) info image (staging entry 2) (negsuc 2)

-- ---- what is allowed

pub record Right : Type 0 where
  pub opens : Open 0 0 (state 8 6 0 0 idle) info image (staging header 18)
  pub open_refused : Open 2 12 (replicate 16 0) (replicate 255 0) (replicate 32 0) (replicate 24 0)
  pub begins : Begin 7 0 (state 8 6 9 0 in_entry) image (staging begun 15)
  pub begin_refused : Begin 3 7 (state 8 6 0 0 idle) image (staging header 18)
  pub begins_chunk : BeginChunk 0 (state 8 6 14 0 (in_chunk 3 0)) image (staging chunk_begun 10)
  pub writes_three : Write 0 (state 8 6 17 0 (in_chunk 0 0xF132_DF67)) image (staging filled 7) (3 ∷ 0 ∷ 0 ∷ 0 ∷ [])
  pub finishes : Finish 0 (state 8 6 21 0 in_entry) image (staging finished 3) (4 ∷ 15 ∷ 0xF132_DF67 ∷ 3 ∷ [])
  pub commits : Commit 0 (committed 8 6 22 0) image (staging entry 2) (7 ∷ 28 ∷ 0 ∷ 0 ∷ [])
  pub rolls_back : Rollback 0 (state 8 6 0 0 idle) image (staging filled 7)
  pub flushes : Flush 0 (committed 28 28 0 0) flushed_image (staging entry 2)
  pub synchronizes : Sync 0 (committed 28 28 0 28) flushed_image (staging entry 2)
  pub recycles : Recycle 0 (recycled 0 0 0) flushed_image (header ++ staging (drop 6 entry) 2)
  pub lands : LandStart 0 (30 ∷ 0 ∷ 0 ∷ 0 ∷ [])
  pub lands_by_end : LandEnd 0 (5 ∷ 0 ∷ 0 ∷ 0 ∷ [])
  pub below_refused : LandBelow 11 (replicate 4 0)
  pub lands_by_current : LandCurrent old 0 (25 ∷ 0 ∷ 0 ∷ 0 ∷ [])
  pub short_refused : LandCurrent (replicate 3 9) 12 (replicate 3 9)

pub right : Right
unfolding started opening_of padded open_refusal prepared unheaded headed opened_machine opened crossed writer_from writer_fits writer_words called refusal checks reports writes worked moment_after last_after id_after acted ruled valid flushed staged emptied rounds written written_all back_to synchronized lay le chunk_sum covered crc_append update byte_step steps bit_step
right =
    record {
      opens = refl;
      open_refused = refl;
      begins = refl;
      begin_refused = refl;
      begins_chunk = refl;
      writes_three = refl;
      finishes = refl;
      commits = refl;
      rolls_back = refl;
      flushes = refl;
      synchronizes = refl;
      recycles = refl;
      lands = refl;
      lands_by_end = refl;
      below_refused = refl;
      lands_by_current = refl;
      short_refused = refl;
    }

-- ---- what is not

pub record Refuted : Type 0 where
  -- last_known 2 is taken for 1; last_id is stored though it is not known; the old info is left behind the version info
  pub open_two_known : Open 2 0 (4 ∷ 1 ∷ 32 ∷ 24 ∷ 8 ∷ 6 ∷ 0 ∷ 0 ∷ 1 ∷ 3 ∷ idle) info image (staging header 18) → ⊥
  pub open_last_stored : Open 0 0 (4 ∷ 1 ∷ 32 ∷ 24 ∷ 8 ∷ 6 ∷ 0 ∷ 0 ∷ 0 ∷ 3 ∷ idle) info image (staging header 18) → ⊥
  pub open_info_left : Open 0 0 (state 8 6 0 0 idle) (0x41 ∷ replicate 254 9) image (staging header 18) → ⊥
  -- the id is not stored in word 11; the start is taken behind the bytes written; state words are written beside a refusal
  pub begin_id_forgotten : Begin 7 0 (state 8 6 9 0 (1 ∷ 0 ∷ 6 ∷ 0 ∷ 0 ∷ 0 ∷ [])) image (staging begun 15) → ⊥
  pub begin_start_behind : Begin 7 0 (state 8 6 9 0 (1 ∷ 7 ∷ 15 ∷ 0 ∷ 0 ∷ 0 ∷ [])) image (staging begun 15) → ⊥
  pub begin_beside_refusal : Begin 3 7 (state 8 6 0 0 (1 ∷ 3 ∷ 6 ∷ 0 ∷ 0 ∷ 0 ∷ [])) image (staging header 18) → ⊥
  -- nothing is owed; the entry's start becomes the 02's offset
  pub begin_chunk_owes_nothing : BeginChunk 0 (state 8 6 14 0 (in_chunk 0 0)) image (staging chunk_begun 10) → ⊥
  pub begin_chunk_moves_start : BeginChunk 0 (state 8 6 14 0 (2 ∷ 7 ∷ 15 ∷ 3 ∷ 3 ∷ 0 ∷ [])) image (staging chunk_begun 10) → ⊥
  -- all that was offered is counted; the sum is not carried on
  pub write_all_counted : Write 0 (state 8 6 17 0 (in_chunk 0 0xF132_DF67)) image (staging filled 7) (4 ∷ 0 ∷ 0 ∷ 0 ∷ []) → ⊥
  pub write_sum_left : Write 0 (state 8 6 17 0 (in_chunk 0 0)) image (staging filled 7) (3 ∷ 0 ∷ 0 ∷ 0 ∷ []) → ⊥
  -- the offset is that of the data; the words of the chunk are left
  pub finish_data_told : Finish 0 (state 8 6 21 0 in_entry) image (staging finished 3) (4 ∷ 20 ∷ 0xF132_DF67 ∷ 3 ∷ []) → ⊥
  pub finish_words_left : Finish 0 (state 8 6 21 0 (1 ∷ 7 ∷ 6 ∷ 3 ∷ 0 ∷ 0xF132_DF67 ∷ [])) image (staging finished 3) (4 ∷ 15 ∷ 0xF132_DF67 ∷ 3 ∷ []) → ⊥
  -- the entry's start is answered, not the position; the last id stays unknown
  pub commit_start_told : Commit 0 (committed 8 6 22 0) image (staging entry 2) (7 ∷ 6 ∷ 0 ∷ 0 ∷ []) → ⊥
  pub commit_last_forgotten : Commit 0 (state 8 6 22 0 idle) image (staging entry 2) (7 ∷ 28 ∷ 0 ∷ 0 ∷ []) → ⊥
  -- the entry's bytes still count; refused, since a chunk is open
  pub rollback_bytes_counted : Rollback 0 (state 8 6 17 0 idle) image (staging filled 7) → ⊥
  pub rollback_in_chunk_refused : Rollback 6 (state 8 6 17 0 (in_chunk 0 0xF132_DF67)) image (staging filled 7) → ⊥
  -- the staged bytes are lost; their count is left
  pub flush_bytes_lost : Flush 0 (committed 28 28 0 0) image (staging entry 2) → ⊥
  pub flush_count_left : Flush 0 (committed 28 28 22 0) flushed_image (staging entry 2) → ⊥
  -- bytes that are still staged count as synchronized; the number is taken before the flush
  pub sync_bytes_staged : Sync 0 (committed 8 6 22 28) image (staging entry 2) → ⊥
  pub sync_before_flush : Sync 0 (committed 28 28 0 6) flushed_image (staging entry 2) → ⊥
  -- the last id stays; the synchronized number stays
  pub recycle_last_kept : Recycle 0 (recycled 0 1 7) flushed_image (header ++ staging (drop 6 entry) 2) → ⊥
  pub recycle_synchronized_kept : Recycle 0 (recycled 28 0 0) flushed_image (header ++ staging (drop 6 entry) 2) → ⊥
  -- the file length is the limit; old words are left behind the place
  pub land_start_past_file : LandStart 11 (replicate 4 0) → ⊥
  pub land_start_words_left : LandStart 0 (30 ∷ 9 ∷ 9 ∷ 9 ∷ []) → ⊥
  -- from the image's end; a place below 0 becomes 0
  pub land_end_of_image : LandEnd 0 (29 ∷ 0 ∷ 0 ∷ 0 ∷ []) → ⊥
  pub land_end_below : LandBelow 0 (replicate 4 0) → ⊥
  -- from the file position; zeros in an answer that is too short
  pub land_current_unstaged : LandCurrent old 0 (3 ∷ 0 ∷ 0 ∷ 0 ∷ []) → ⊥
  pub land_current_short_zeroed : LandCurrent (replicate 3 9) 12 (replicate 3 0) → ⊥

abbrev state_word : ℕ → Left → ℕ
state_word i l = word i l.state

abbrev answer_word : ℕ → Left → ℕ
answer_word i l = word i l.answer

pub refuted : Refuted
refuted =
    record {
      open_two_known = apart (λ (o : Start). o.number) right.open_refused refl;
      open_last_stored = apart (λ (o : Start). word 9 o.state) right.opens refl;
      open_info_left = apart (λ (o : Start). word 1 o.info) right.opens refl;
      begin_id_forgotten = apart (state_word 11) right.begins refl;
      begin_start_behind = apart (state_word 12) right.begins refl;
      begin_beside_refusal = apart (state_word 10) right.begin_refused refl;
      begin_chunk_owes_nothing = apart (state_word 14) right.begins_chunk refl;
      begin_chunk_moves_start = apart (state_word 12) right.begins_chunk refl;
      write_all_counted = apart (answer_word 0) right.writes_three refl;
      write_sum_left = apart (state_word 15) right.writes_three refl;
      finish_data_told = apart (answer_word 1) right.finishes refl;
      finish_words_left = apart (state_word 13) right.finishes refl;
      commit_start_told = apart (answer_word 1) right.commits refl;
      commit_last_forgotten = apart (state_word 8) right.commits refl;
      rollback_bytes_counted = apart (state_word 6) right.rolls_back refl;
      rollback_in_chunk_refused = apart (λ (l : Left). l.number) right.rolls_back refl;
      flush_bytes_lost = apart (λ (l : Left). word 6 l.image) right.flushes refl;
      flush_count_left = apart (state_word 6) right.flushes refl;
      sync_bytes_staged = apart (state_word 6) right.synchronizes refl;
      sync_before_flush = apart (state_word 7) right.synchronizes refl;
      recycle_last_kept = apart (state_word 8) right.recycles refl;
      recycle_synchronized_kept = apart (state_word 7) right.recycles refl;
      land_start_past_file = apart (λ (l : Left). l.number) right.lands refl;
      land_start_words_left = apart (answer_word 1) right.lands refl;
      land_end_of_image = apart (answer_word 0) right.lands_by_end refl;
      land_end_below = apart (λ (l : Left). l.number) right.below_refused refl;
      land_current_unstaged = apart (answer_word 0) right.lands_by_current refl;
      land_current_short_zeroed = apart (answer_word 0) right.short_refused refl;
    }
