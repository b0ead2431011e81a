-- A reader's call between the words of the state and those of the answer: the call of a loaded reader, and what its result tells. `crossed` lays this into
-- the slices that are lent.
use Rattle.std.specs.Prelude.{ℕ, ◌≡◌, cond, List, [], replicate, Result, Ok, Err}
use Rattle.lists.specs.Lay.{lay}
use Rattle.lists.specs.Answers.{number_of}
use Rattle.entry.specs.declared.Refusal.{Refusal}
use Rattle.entry.specs.Refusal.{refusal_number, answer_of as in_numbers}
use Rattle.segment_reader.specs.declared.SegmentReader.{SegmentReader}
use Rattle.segment_reader.specs.declared.calls.Reply.{Reply}
use Rattle.segment_reader.specs.Step.{step_values}
use Rattle.segment_reader.specs.Calls.{Call, crc_check, answer_of, read_by}
use Rattle.okaywal_segment.specs.Words.{answer_words, number_told, words_told}
use Rattle.okaywal_segment.specs.ReaderWords.{reader_words, reader_loaded}
use Rattle.okaywal_segment.specs.Steps.{enough_to_read}
use Rattle.okaywal_segment.specs.ReaderCrossing.{Read, read, passes}

abbrev pub crossing : Call → (state image : List ℕ) → Result SegmentReader Refusal → Read
crossing c state image (Ok r) =
    let s = read_by c r image in
    read (number_of (answer_of s.reply)) (cond (passes (number_of (answer_of s.reply))) (lay state 0 (reader_words s.reader)) state) (answer_words (answer_of s.reply))
crossing c state image (Err refusal) = read (refusal_number refusal) state (replicate 4 0)

-- a result in numbers
abbrev pub outcome : Result Reply Refusal → (state' : List ℕ) → Read
outcome r state' = read (number_of (in_numbers step_values r)) state' (answer_words (in_numbers step_values r))

abbrev pub CalledAllows : Call → (state image : List ℕ) → Result Reply Refusal → (state' : List ℕ) → Type 0
CalledAllows c state image r state' = outcome r state' ≡ crossing c state image (reader_loaded state)

-- a call that moves, with no answer
abbrev pub crossed_bare : Call → (state image : List ℕ) → Read
crossed_bare c state image = let l = crossing c state image (reader_loaded state) in read l.number l.state []

-- and one with so many words of answer
abbrev pub crossed_by : (wants : ℕ) → Call → (state image answer : List ℕ) → Read
crossed_by wants c state image answer =
    let l = crossing c state image (reader_loaded state) in
    cond (enough_to_read wants state answer) (read l.number l.state (lay answer 0 l.answer)) (read 12 state answer)

-- a CRC check of a loaded reader: nothing moves
abbrev pub check_of : (state image : List ℕ) → Result SegmentReader Refusal → Read
check_of state image (Ok r) = let a = answer_of (read_by crc_check r image).reply in read (number_of a) state (answer_words a)
check_of state image (Err refusal) = read (refusal_number refusal) state (replicate 4 0)

abbrev pub CheckedAllows : (state image : List ℕ) → Result (List ℕ) Refusal → Type 0
CheckedAllows state image r = read (number_told r) state (words_told r) ≡ check_of state image (reader_loaded state)
