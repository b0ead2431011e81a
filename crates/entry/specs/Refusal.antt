-- The number of each refusal, as the C header has it, and the answer of a call by numbers: what it reports, or the number of its refusal.
use Rattle.std.specs.Prelude.{ℕ, List, Result, Ok, Err}
use Rattle.lists.specs.Answers.{Answer, accepted, refused}
use Rattle.entry.specs.declared.Refusal.{Refusal}
use Rattle.entry.specs.declared.Refusal.TheVariants.{Short, Magic, Version, InfoTooLong, NoRoom, NotNow, LowId, BytesOwed, Cut, WrongSum, OutsideImage, OutOfRange}

abbrev pub refusal_number : Refusal → ℕ
refusal_number Short = 1
refusal_number Magic = 2
refusal_number Version = 3
refusal_number InfoTooLong = 4
refusal_number NoRoom = 5
refusal_number NotNow = 6
refusal_number LowId = 7
refusal_number BytesOwed = 8
refusal_number (Cut cut) = 9
refusal_number WrongSum = 10
refusal_number OutsideImage = 11
refusal_number OutOfRange = 12

-- values says which numbers are reported of what a call gives
abbrev pub answer_of : {A : Type 0} → (A → List ℕ) → Result A Refusal → Answer
answer_of values (Ok x) = accepted (values x)
answer_of values (Err refusal) = refused (refusal_number refusal)
