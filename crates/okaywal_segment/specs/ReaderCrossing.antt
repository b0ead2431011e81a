-- A reader's call across the boundary: words to a state, one call, a state to words. What each function of a reader returns and leaves in the slices that
-- it is lent (include/okaywal_segment.h, "Answers" and "State"). The image is lent to be read only.
use Rattle.std.specs.Prelude.{ℕ, ◌≡◌, Bool, true, false, cond, ◌||◌, List, [], replicate, eqb}
use Rattle.lists.specs.Lay.{lay}
use Rattle.lists.specs.Answers.{number_of}
use Rattle.segment_reader.specs.Calls.{Call, next_entry, next_chunk, crc_check, skip_rest, whole_entry, data_read, Step, answer_of, read_by, new}
use Rattle.okaywal_segment.specs.Words.{answer_words}
use Rattle.okaywal_segment.specs.ReaderWords.{reader_words, reader_from, reader_fits}
use Rattle.okaywal_segment.specs.Steps.{enough_to_read}

-- what a call returns, and leaves in its slices
pub record Read : Type 0 where
  pub number : ℕ
  pub state : List ℕ
  pub answer : List ℕ

abbrev pub read : ℕ → (state answer : List ℕ) → Read
read n state answer = record { number = n; state = state; answer = answer }

-- the words of its answer that a call asks for; where there are none, no slice is lent for them: its answer is []
abbrev pub wanted : Call → ℕ
wanted next_entry = 4
wanted next_chunk = 4
wanted crc_check = 4
wanted skip_rest = 0
wanted whole_entry = 4
wanted (data_read asked) = 4

-- the CRC check writes no state word
abbrev pub moves : Call → Bool
moves next_entry = true
moves next_chunk = true
moves crc_check = false
moves skip_rest = true
moves whole_entry = true
moves (data_read asked) = true

-- an accepted call, 9 and 10 write every state word anew; any other refusal none
abbrev pub passes : (number : ℕ) → Bool
passes n = (eqb n 0 || eqb n 9) || eqb n 10

abbrev pub restated : Call → (state : List ℕ) → Step → List ℕ
restated c state s = cond (moves c) (cond (passes (number_of (answer_of s.reply))) (lay state 0 (reader_words s.reader)) state) state

-- what the call itself leaves
abbrev pub handed : Call → (state answer : List ℕ) → Step → Read
handed c state answer s = read (number_of (answer_of s.reply)) (restated c state s) (lay answer 0 (answer_words (answer_of s.reply)))

-- a slice too short: 12, and nothing is stored anywhere. A word out of its range: 12, and zeros in the answer. Else the call
unfoldable pub crossed : Call → (state image answer : List ℕ) → Read
crossed c state image answer =
    cond
    (enough_to_read (wanted c) state answer)
    (cond (reader_fits state) (handed c state answer (read_by c (reader_from state) image)) (read 12 state (lay answer 0 (replicate 4 0))))
    (read 12 state answer)

-- what a function may return and leave
abbrev pub ReaderAllows : Call → (state image answer : List ℕ) → (number : ℕ) (state' answer' : List ℕ) → Type 0
ReaderAllows c state image answer number state' answer' = read number state' answer' ≡ crossed c state image answer

-- ---- opening: accepted or refused, it writes every state word anew, unless the state is too short

unfoldable pub opened_reader : (state image : List ℕ) (file : ℕ) → Read
opened_reader state image file =
    let s = new file image in
    cond (enough_to_read 0 state []) (read (number_of (answer_of s.reply)) (lay state 0 (reader_words s.reader)) []) (read 12 state [])
