-- A writer's call between the words of the state and those of the answer: the call of a loaded writer, and what its result tells. `crossed` lays this into
-- the slices that are lent.
use Rattle.std.specs.Prelude.{ℕ, ◌≡◌, cond, List, [], replicate, Result, Ok, Err}
use Rattle.std.specs.declared.io.SeekFrom.{SeekFrom}
use Rattle.lists.specs.Lay.{lay}
use Rattle.lists.specs.Answers.{number_of, obey}
use Rattle.entry.specs.declared.Refusal.{Refusal}
use Rattle.entry.specs.Refusal.{refusal_number, answer_of}
use Rattle.log_file.specs.declared.LogFileWriter.{LogFileWriter}
use Rattle.log_file.specs.declared.calls.Reply.{Reply}
use Rattle.log_file.specs.Step.{reply_values}
use Rattle.log_file.specs.State.{machine}
use Rattle.log_file.specs.Calls.{Call, landing, called}
use Rattle.okaywal_segment.specs.Words.{answer_words, number_told, words_told}
use Rattle.okaywal_segment.specs.WriterWords.{writer_words, loaded}
use Rattle.okaywal_segment.specs.Steps.{enough}
use Rattle.okaywal_segment.specs.Crossing.{Left, left}

abbrev pub crossing : Call → (state image staging : List ℕ) → Result LogFileWriter Refusal → Left
crossing c state image staging (Ok w) =
    let r = called (machine w image staging) c in
    left (number_of r.answer) (obey (number_of r.answer) state (lay state 0 (writer_words r.machine'.writer))) r.machine'.image r.machine'.staging (answer_words r.answer)
crossing c state image staging (Err refusal) = left (refusal_number refusal) state image staging (replicate 4 0)

abbrev pub outcome : Result Reply Refusal → (state' image' staging' : List ℕ) → Left
outcome r state' image' staging' =
    left (number_of (answer_of reply_values r)) state' image' staging' (answer_words (answer_of reply_values r))

abbrev pub CalledAllows : Call → (state info image staging : List ℕ) → Result Reply Refusal → (state' image' staging' : List ℕ) → Type 0
CalledAllows c state info image staging r state' image' staging' =
    outcome r state' image' staging' ≡ crossing c state image staging (loaded state info)

-- a call that moves, with no answer
abbrev pub crossed_bare : Call → (state info image staging : List ℕ) → Left
crossed_bare c state info image staging =
    let l = crossing c state image staging (loaded state info) in
    left l.number l.state l.image l.staging []

-- and one with so many words of answer
abbrev pub crossed_by : (wants : ℕ) → Call → (state info image staging answer : List ℕ) → Left
crossed_by wants c state info image staging answer =
    let l = crossing c state image staging (loaded state info) in
    cond (enough wants state info answer) (left l.number l.state l.image l.staging (lay answer 0 l.answer)) (left 12 state image staging answer)

-- where a seek lands, of a loaded writer: nothing moves
abbrev pub landing_of : SeekFrom → (state image staging : List ℕ) → Result LogFileWriter Refusal → Left
landing_of from state image staging (Ok w) =
    let r = called (machine w image staging) (landing from) in
    left (number_of r.answer) state r.machine'.image r.machine'.staging (answer_words r.answer)
landing_of from state image staging (Err refusal) = left (refusal_number refusal) state image staging (replicate 4 0)

abbrev pub LandedAllows : SeekFrom → (state info image staging : List ℕ) → Result (List ℕ) Refusal → Type 0
LandedAllows from state info image staging r =
    left (number_told r) state image staging (words_told r) ≡ landing_of from state image staging (loaded state info)
