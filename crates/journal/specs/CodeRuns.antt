-- Runs of the code: an opening and steps, each with a result that its promise allows, on the writer and the buffers that the last one left. Nothing
-- here is a model: what is heard of such a run is what the code answered and left.
use Rattle.std.specs.Prelude.{ℕ, ◌≡◌, List, [], ◌∷◌, Result}
use Rattle.entry.specs.declared.Refusal.{Refusal}
use Rattle.entry.specs.Refusal.{answer_of}
use Rattle.log_file.specs.declared.LogFileWriter.{LogFileWriter}
use Rattle.log_file.specs.declared.calls.Call.{Call}
use Rattle.log_file.specs.declared.calls.Reply.{Reply}
use Rattle.log_file.specs.State.{Machine, machine}
use Rattle.log_file.specs.Opening.{Terms, OpenAllows}
use Rattle.log_file.specs.History.{History}
use Rattle.log_file.specs.Step.{call_of, reply_values, StepAllows}
use Rattle.journal.specs.Stories.{Heard, story, answers_of}
use Rattle.journal.specs.CutsDoNotShow.{Given, Follows}

-- ---- an opening: its result, and the writer and the buffers at its exit

pub record Opening : Type 0 where
  pub result : Result (Unit {0}) Refusal
  pub writer : LogFileWriter
  pub image : List ℕ
  pub staging : List ℕ

-- `open` may have answered so, fresh: its validated length is 0
abbrev pub OpensFresh : Terms → Given → Opening → Type 0
OpensFresh o g x = OpenAllows o 0 g.file_length g.image g.staging x.result x.writer x.image x.staging

abbrev pub opened_as : Opening → Machine
opened_as x = machine x.writer x.image x.staging

-- ---- a step: the call with what was given to it, its result, and the writer and the buffers at its exit

pub record Stepping : Type 0 where
  pub call : Call
  pub result : Result Reply Refusal
  pub writer : LogFileWriter
  pub image : List ℕ
  pub staging : List ℕ

abbrev pub left_as : Stepping → Machine
left_as x = machine x.writer x.image x.staging

-- `step` may have answered so
abbrev pub Steps : Machine → Stepping → Type 0
Steps m x = StepAllows m.writer m.image m.staging x.call x.result x.writer x.image x.staging

-- ---- a run from m

abbrev pub Run : Machine → List Stepping → Type 0
Run m [] = Unit {0}
Run m (x ∷ xs) = Steps m x × Run (left_as x) xs

-- what is heard of it
abbrev pub hears_one : Stepping → Heard
hears_one x = record { call = call_of x.call; answer = answer_of reply_values x.result; machine' = left_as x }

abbrev pub hears : List Stepping → List Heard
hears [] = []
hears (x ∷ xs) = hears_one x ∷ hears xs

-- ---- what is asked of two runs that began with the history h, under images of n bytes: all answers that are not excepted agree, and all that is seen
-- after each matching call and at the end; and each run is the one that the format gives

pub record OneStory (n : ℕ) (h : History) (m m' : Machine) (xs ys : List Heard) : Type 0 where
  pub answers : answers_of (story m xs) ≡ answers_of (story m' ys)
  pub stories : story m xs ≡ story m' ys
  pub one : Follows n h m xs
  pub other : Follows n h m' ys
