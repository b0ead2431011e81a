-- A position across the boundary: what the two functions return, and leave in the slice that they are lent.
use Rattle.std.specs.Prelude.{ℕ, ◌≡◌, cond, List, length, ltb}
use Rattle.lists.specs.Lay.{lay}
use Rattle.lists.specs.Answers.{Answer, number_of}
use Rattle.entry.specs.Position.{Written, serialized, deserialized}
use Rattle.okaywal_segment.specs.Words.{answer_words}

pub record Stored : Type 0 where
  pub number : ℕ
  pub slice : List ℕ

abbrev pub stored : ℕ → List ℕ → Stored
stored n slice = record { number = n; slice = slice }

abbrev pub written_down : Written → Stored
written_down w = stored (number_of w.answer) w.buffer

abbrev pub PositionWriteAllows : (file_id offset : ℕ) (buffer : List ℕ) → (number : ℕ) (buffer' : List ℕ) → Type 0
PositionWriteAllows file_id offset buffer number buffer' =
    stored number buffer' ≡ written_down (serialized (record { file_id = file_id; offset = offset }) buffer)

-- an answer too short: 12, and nothing is stored
abbrev pub told : Answer → (answer : List ℕ) → Stored
told a answer = cond (ltb (length answer) 4) (stored 12 answer) (stored (number_of a) (lay answer 0 (answer_words a)))

abbrev pub PositionReadAllows : (buffer answer : List ℕ) → (number : ℕ) (answer' : List ℕ) → Type 0
PositionReadAllows buffer answer number answer' = stored number answer' ≡ told (deserialized buffer) answer
