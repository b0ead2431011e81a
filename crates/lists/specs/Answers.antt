-- Answers in document 01's terms: the values that a call reports, or the number of its refusal. Refusals are a row of checks, each with its number,
-- tried in the order in which the document names them. The laws are in `AnswersLaws`.
use Rattle.std.specs.Prelude.{ℕ, zero, suc, Bool, true, cond, ◌&&◌, List, [], ◌∷◌}

pub data Answer : Type 0 where
  accepted : List ℕ → Answer
  refused : ℕ → Answer

-- 0, or the number of the refusal
abbrev pub number_of : Answer → ℕ
number_of (accepted values) = 0
number_of (refused no') = no'

-- ---- a row of checks

infix 40 ◌⇒◌
pub data Check : Type 0 where
  ◌⇒◌ : Bool → ℕ → Check

-- the number of the first check that is true, or 0
abbrev pub first : List Check → ℕ
first [] = 0
first ((bad ⇒ no') ∷ checks) = cond bad no' (first checks)

-- ---- tests that must all hold

abbrev pub all_from : Bool → List Bool → Bool
all_from sofar [] = sofar
all_from sofar (test ∷ tests) = all_from (sofar && test) tests

abbrev pub all : List Bool → Bool
all [] = true
all (test ∷ tests) = all_from test tests

-- ---- what follows from the number: the answer, and whether anything changes

abbrev pub reply : ℕ → List ℕ → Answer
reply zero values = accepted values
reply (suc n) values = refused (suc n)

-- a refusal changes nothing
abbrev pub obey : {A : Type 0} → ℕ → (stay go : A) → A
obey zero stay go = go
obey (suc n) stay go = stay
