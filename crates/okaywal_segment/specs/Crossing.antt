-- A call across the boundary: words to a state, one call, a state to words. What each function of a writer returns and leaves in every slice that it
-- is lent (include/okaywal_segment.h, "Answers" and "State").
use Rattle.std.specs.Prelude.{ℕ, ◌≡◌, Bool, true, false, cond, List, replicate}
use Rattle.lists.specs.Lay.{lay}
use Rattle.lists.specs.Answers.{number_of, obey}
use Rattle.log_file.specs.State.{machine}
use Rattle.log_file.specs.Calls.{Call, begin_entry, begin_chunk, write, finish, commit, rollback, flush, recycle, synchronize, landing, Called, called}
use Rattle.okaywal_segment.specs.Words.{answer_words}
use Rattle.okaywal_segment.specs.Steps.{enough}
use Rattle.okaywal_segment.specs.WriterWords.{writer_words, writer_from, writer_fits}

-- what a call returns, and leaves in its slices
pub record Left : Type 0 where
  pub number : ℕ
  pub state : List ℕ
  pub image : List ℕ
  pub staging : List ℕ
  pub answer : List ℕ

abbrev pub left : ℕ → (state image staging answer : List ℕ) → Left
left n state image staging answer = record { number = n; state = state; image = image; staging = staging; answer = answer }

-- the words of its answer that a call asks for; where there are none, no slice is lent for them: its answer is []
abbrev pub wanted : Call → ℕ
wanted (begin_entry id) = 0
wanted (begin_chunk n) = 0
wanted (write offered) = 4
wanted finish = 4
wanted commit = 4
wanted rollback = 0
wanted flush = 0
wanted (recycle id) = 0
wanted (synchronize t) = 0
wanted (landing from) = 4

-- landings write no state word
abbrev pub moves : Call → Bool
moves (begin_entry id) = true
moves (begin_chunk n) = true
moves (write offered) = true
moves finish = true
moves commit = true
moves rollback = true
moves flush = true
moves (recycle id) = true
moves (synchronize t) = true
moves (landing from) = false

-- an accepted call writes every state word anew
abbrev pub restated : Call → (state : List ℕ) → Called → List ℕ
restated c state r = cond (moves c) (obey (number_of r.answer) state (lay state 0 (writer_words r.machine'.writer))) state

-- what the call itself leaves
abbrev pub handed : Call → (state answer : List ℕ) → Called → Left
handed c state answer r =
    left (number_of r.answer) (restated c state r) r.machine'.image r.machine'.staging (lay answer 0 (answer_words r.answer))

-- a slice too short: 12, and nothing is stored anywhere. A word out of its range: 12, and zeros in the answer. Else the call
unfoldable pub crossed : Call → (state info image staging answer : List ℕ) → Left
crossed c state info image staging answer =
    cond
    (enough (wanted c) state info answer)
    (cond
    (writer_fits state)
    (handed c state answer (called (machine (writer_from state info) image staging) c))
    (left 12 state image staging (lay answer 0 (replicate 4 0))))
    (left 12 state image staging answer)

-- what a function may return and leave
abbrev pub WriterAllows : Call → (state info image staging answer : List ℕ) → (number : ℕ) (state' image' staging' answer' : List ℕ) → Type 0
WriterAllows c state info image staging answer number state' image' staging' answer' =
    left number state' image' staging' answer' ≡ crossed c state info image staging answer
