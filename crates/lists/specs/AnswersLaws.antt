-- What a row of checks tells where none of them is true, and what tests tell that all hold.
use Rattle.std.specs.Prelude.{ℕ, zero, suc, ◌≤◌, ◌<◌, ◌≡◌, refl, Bool, true, false, ◌&&◌, List, [], ◌∷◌, leb, ltb}
use Rattle.std.proofs.Common.{sym, arith, le-leb, leb-true, leb-false, lt-ltb, le-ltb, ltb-true, ltb-false}
use Rattle.std.proofs.lemmas.Bool.{lt-leb}
use Rattle.lists.specs.Answers.{Check, ◌⇒◌, first, all_from, all}

-- each check is false
abbrev pub Clear : List Check → Type 0
Clear [] = Unit {0}
Clear ((bad ⇒ zero) ∷ checks) = Unit {0}
Clear ((bad ⇒ suc n) ∷ checks) = (bad ≡ false) × Clear checks

pub clear : (checks : List Check) → first checks ≡ 0 → Clear checks
clear [] e = tt
clear ((bad ⇒ zero) ∷ checks) e = tt
clear ((true ⇒ suc n) ∷ checks) e = absurd (omega arith)
clear ((false ⇒ suc n) ∷ checks) e = (refl, clear checks e)

-- ---- each test holds

abbrev pub Every : List Bool → Type 0
Every [] = Unit {0}
Every (test ∷ tests) = (test ≡ true) × Every tests

and_left : (a b : Bool) → (a && b) ≡ true → a ≡ true
and_left true b e = refl
and_left false b e = e

and_right : (a b : Bool) → (a && b) ≡ true → b ≡ true
and_right true b e = e
and_right false b e = let z : ◌≡◌ {A = ℕ} 0 1 = cc in absurd (omega arith)

every-from : (a : Bool) (tests : List Bool) → all_from a tests ≡ true → (a ≡ true) × Every tests
every-from a [] e = (e, tt)
every-from a (test ∷ tests) e = let r = every-from (a && test) tests e in (and_left a test r.0, (and_right a test r.0, r.1))

pub every : (tests : List Bool) → all tests ≡ true → Every tests
every [] e = tt
every (test ∷ tests) e = every-from test tests e

all-from : (a : Bool) (tests : List Bool) → a ≡ true → Every tests → all_from a tests ≡ true
all-from a [] e h = e
all-from a (test ∷ tests) e h = all-from (a && test) tests (rw (e, h.0)) h.1

pub all_hold : (tests : List Bool) → Every tests → all tests ≡ true
all_hold [] h = refl
all_hold (test ∷ tests) h = all-from test tests h.0 h.1

pub both : (a b : Bool) → (a && b) ≡ true → (a ≡ true) × (b ≡ true)
both a b e = (and_left a b e, and_right a b e)

-- all tests, the first by itself
all-from-and : (a : Bool) (tests : List Bool) → all_from a tests ≡ (a && all tests)
all-from-and true [] = refl
all-from-and false [] = refl
all-from-and true (test ∷ tests) = refl
all-from-and false (test ∷ tests) = none tests
  where
    none : (rest : List Bool) → all_from false rest ≡ false
    none [] = refl
    none (b ∷ rest) = none rest

pub all_cons : (a : Bool) (tests : List Bool) → all (a ∷ tests) ≡ (a && all tests)
all_cons a tests = all-from-and a tests

-- ---- a test that says the same of other numbers

same_bool : (x y : Bool) → (x ≡ true → y ≡ true) → (x ≡ false → y ≡ false) → x ≡ y
same_bool true y f g = sym (f refl)
same_bool false y f g = sym (g refl)

pub same-ltb : (a b c d : ℕ) → (a < b → c < d) → (b ≤ a → d ≤ c) → ltb a b ≡ ltb c d
same-ltb a b c d f g = same_bool (ltb a b) (ltb c d) (λ e. lt-ltb c d (f (ltb-true a b e))) (λ e. le-ltb c d (g (ltb-false a b e)))

pub same-leb : (a b c d : ℕ) → (a ≤ b → c ≤ d) → (b < a → d < c) → leb a b ≡ leb c d
same-leb a b c d f g = same_bool (leb a b) (leb c d) (λ e. le-leb c d (f (leb-true a b e))) (λ e. lt-leb c d (g (leb-false a b e)))
