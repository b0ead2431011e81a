-- Answers as a number and four words (include/okaywal_segment.h, "Answers").
use Rattle.std.specs.Prelude.{ℕ, ◌≡◌, List, ◌++◌, take, replicate, get_or, Result, Ok, Err}
use Rattle.lists.specs.Answers.{Answer, accepted, refused, number_of}
use Rattle.entry.specs.declared.Refusal.{Refusal}
use Rattle.entry.specs.Refusal.{refusal_number}

-- an accepted call writes all four words, 0 behind its values; a refusal four zeros
abbrev pub answer_words : Answer → List ℕ
answer_words (accepted values) = take 4 (values ++ replicate 4 0)
answer_words (refused n) = replicate 4 0

-- the word at a place
abbrev pub word : ℕ → List ℕ → ℕ
word i words = get_or words i 0

-- ---- the same of the code's results, which hold the four words or the refusal

abbrev pub number_told : {A : Type 0} → Result A Refusal → ℕ
number_told (Ok x) = 0
number_told (Err refusal) = refusal_number refusal

abbrev pub words_told : Result (List ℕ) Refusal → List ℕ
words_told (Ok words) = words
words_told (Err refusal) = replicate 4 0

-- a result tells an answer
pub record Tells (r : Result (List ℕ) Refusal) (a : Answer) : Type 0 where
  pub number_is : number_told r ≡ number_of a
  pub words_are : words_told r ≡ answer_words a
