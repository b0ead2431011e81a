-- Whether every slice that a call is lent is long enough.
use Rattle.std.specs.Prelude.{ℕ, Bool, List, [], ◌∷◌, length, leb}
use Rattle.lists.specs.Answers.{all}

-- no slice is too short
abbrev pub long_enough : (wants state info answer : ℕ) → Bool
long_enough wants state info answer = all (leb 16 state ∷ leb 255 info ∷ leb wants answer ∷ [])

abbrev pub enough : (wants : ℕ) (state info answer : List ℕ) → Bool
enough wants state info answer = long_enough wants (length state) (length info) (length answer)

-- the same for a reader, which is lent no version info
abbrev pub long_enough_to_read : (wants state answer : ℕ) → Bool
long_enough_to_read wants state answer = all (leb 10 state ∷ leb wants answer ∷ [])

abbrev pub enough_to_read : (wants : ℕ) (state answer : List ℕ) → Bool
enough_to_read wants state answer = long_enough_to_read wants (length state) (length answer)
