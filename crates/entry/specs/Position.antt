-- A position as bytes (document 01, "Segment bytes": file id, offset), what `serialize_to` and `deserialize_from` may answer, and what they leave.
use Rattle.std.specs.Prelude.{ℕ, ◌≡◌, List, [], ◌∷◌, ◌++◌, length, ltb, Result}
use Rattle.lists.specs.Lay.{lay}
use Rattle.lists.specs.Answers.{Answer, ◌⇒◌, first, reply, obey}
use Rattle.lists.specs.Numbers.{le, number}
use Rattle.entry.specs.declared.LogPosition.{LogPosition}
use Rattle.entry.specs.declared.Refusal.{Refusal}
use Rattle.entry.specs.Refusal.{answer_of}

-- 8 bytes of file id, 8 of offset
unfoldable pub position_bytes : LogPosition → List ℕ
position_bytes p = le 8 p.file_id ++ le 8 p.offset

-- ---- writing one

-- nothing is reported
abbrev pub serialized_as : Result (Unit {0}) Refusal → Answer
serialized_as answer = answer_of (λ _. []) answer

pub record Written : Type 0 where
  pub answer : Answer
  pub buffer : List ℕ

abbrev pub written : Answer → List ℕ → Written
written a b = record { answer = a; buffer = b }

-- 5 under 16 bytes
abbrev pub serialize_no : List ℕ → ℕ
serialize_no buffer = first ((ltb (length buffer) 16 ⇒ 5) ∷ [])

unfoldable pub serialized : LogPosition → List ℕ → Written
serialized p buffer = written (reply (serialize_no buffer) []) (obey (serialize_no buffer) buffer (lay buffer 0 (position_bytes p)))

abbrev pub SerializeAllows : LogPosition → (before : List ℕ) → Result (Unit {0}) Refusal → (after : List ℕ) → Type 0
SerializeAllows p before answer after = written (serialized_as answer) after ≡ serialized p before

-- ---- reading one

-- the file id, then the offset
abbrev pub deserialized_as : Result LogPosition Refusal → Answer
deserialized_as answer = answer_of (λ (p : LogPosition). p.file_id ∷ p.offset ∷ []) answer

-- 1 under 16 bytes
abbrev pub deserialize_no : List ℕ → ℕ
deserialize_no bytes = first ((ltb (length bytes) 16 ⇒ 1) ∷ [])

unfoldable pub deserialized : List ℕ → Answer
deserialized bytes = reply (deserialize_no bytes) (number 8 bytes 0 ∷ number 8 bytes 8 ∷ [])

abbrev pub DeserializeAllows : List ℕ → Result LogPosition Refusal → Type 0
DeserializeAllows bytes answer = deserialized_as answer ≡ deserialized bytes
