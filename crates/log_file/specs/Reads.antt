-- The plain reads of a writer's state: 12 unless the state's own rules hold. No buffers are brought, and nothing changes.
use Rattle.std.specs.Prelude.{ℕ, ◌≡◌, Bool, cond, not, List, [], ◌∷◌, eqb, Option, Some, None, Result}
use Rattle.lists.specs.Answers.{Answer, ◌⇒◌, first, reply}
use Rattle.entry.specs.declared.Refusal.{Refusal}
use Rattle.entry.specs.Refusal.{answer_of}
use Rattle.log_file.specs.declared.LogFileWriter.{LogFileWriter}
use Rattle.log_file.specs.State.{position, ruled}
use Rattle.log_file.specs.Promises.{one_value}

unfoldable pub read : LogFileWriter → (values : List ℕ) → Answer
read w values = reply (first ((not (ruled w) ⇒ 12) ∷ [])) values

abbrev pub flag_values : Bool → List ℕ
flag_values b = cond b 1 0 ∷ []

-- whether it is known, and the id
abbrev pub last_values : Option ℕ → List ℕ
last_values None = 0 ∷ 0 ∷ []
last_values (Some id) = 1 ∷ id ∷ []

-- the logical position; the file position; whether the logical position is the synchronized number; the last id

abbrev pub PositionAllows : LogFileWriter → Result ℕ Refusal → Type 0
PositionAllows w r = answer_of one_value r ≡ read w (position w ∷ [])

abbrev pub BufferPositionAllows : LogFileWriter → Result ℕ Refusal → Type 0
BufferPositionAllows w r = answer_of one_value r ≡ read w (w.file.position ∷ [])

abbrev pub IsSynchronizedAllows : LogFileWriter → Result Bool Refusal → Type 0
IsSynchronizedAllows w r = answer_of flag_values r ≡ read w (cond (eqb (position w) w.file.synchronized) 1 0 ∷ [])

abbrev pub LastEntryIdAllows : LogFileWriter → Result (Option ℕ) Refusal → Type 0
LastEntryIdAllows w r = answer_of last_values r ≡ read w (last_values w.last)
