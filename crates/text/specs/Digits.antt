-- A number of which some digits are read: what `with_digit` answers, and what the loop of `decimal` has left. No public promise speaks of it.
use Rattle.std.specs.Prelude.{cond, List, [], ◌∷◌, ℕ, ◌+◌, ◌*◌, ◌^◌, length, ltb, Option, Some, None}
use Rattle.lists.specs.Answers.{all}
use Rattle.text.specs.Text.{all_digits, value}

-- the number that stands there where n was read and s is left
unfoldable pub decimal_from : ℕ → List ℕ → Option ℕ
decimal_from n s =
    cond (all (all_digits s ∷ ltb (n * 10 ^ length s + value s) (2 ^ 64) ∷ [])) (Some (n * 10 ^ length s + value s)) None
