-- The words that are left to pass over, from the place reached, are the words promised.
use Rattle.std.proofs.Common.{◌≡◌, ◌≤◌, ◌-◌, length, drop}
use Rattle.text.specs.Text.{words_from}
use Rattle.text.proofs.word_start.Given as goal

abbrev pub invariant-loop : goal.invariant-loop
invariant-loop l = (l.at ≤ length l.line) × (words_from (l.k - l.counter) (drop l.at l.line) ≡ words_from l.k l.line)
