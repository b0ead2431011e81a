-- A number stands for one refusal, but for 9. So where no answer is 9, equal answers in numbers are equal results.
use Rattle.std.proofs.Common.{◌≡◌, ℕ, zero, suc, Result, Ok, Err, List, refl, sym, ap, ◌∙◌, if◌then◌else◌, ◌==◌}
use Rattle.lists.specs.Answers.{accepted, refused, number_of, reply}
use Rattle.entry.specs.declared.Refusal.{Refusal}
use Rattle.entry.specs.declared.Refusal.TheVariants.{Short, Magic, Version, InfoTooLong, NoRoom, NotNow, LowId, BytesOwed, Cut, WrongSum, OutsideImage, OutOfRange}
use Rattle.entry.specs.Refusal.{refusal_number, answer_of}

decoded : ℕ → Refusal
decoded n =
    if n == 1 then Short else if n == 2 then Magic else if n == 3 then Version else if n == 4 then InfoTooLong
    else if n == 5 then NoRoom else if n == 6 then NotNow else if n == 7 then LowId else if n == 8 then BytesOwed
    else if n == 10 then WrongSum else if n == 11 then OutsideImage else OutOfRange

back : (a : Refusal) → (refusal_number a ≡ 9 → ⊥) → decoded (refusal_number a) ≡ a
unfolding decoded
back Short h = refl
back Magic h = refl
back Version h = refl
back InfoTooLong h = refl
back NoRoom h = refl
back NotNow h = refl
back LowId h = refl
back BytesOwed h = refl
back (Cut c) h = absurd (h refl)
back WrongSum h = refl
back OutsideImage h = refl
back OutOfRange h = refl

pub one_refusal : (a b : Refusal) → refusal_number a ≡ refusal_number b → (refusal_number a ≡ 9 → ⊥) → a ≡ b
one_refusal a b e h = sym (back a h) ∙ ap decoded e ∙ back b (λ n. h (e ∙ n))

-- one says that equal values are of one result, of those that may be given
pub one_result_of : {A : Type 0} (values : A → List ℕ) (r r' : Result A Refusal) (one : (x y : A) → r ≡ Ok x → r' ≡ Ok y → values x ≡ values y → x ≡ y)
    (n : ℕ) (vs : List ℕ) → (n ≡ 9 → ⊥) → answer_of values r ≡ reply n vs → answer_of values r' ≡ reply n vs → r ≡ r'
one_result_of {A = A} values (Ok x) (Ok y) one n vs h e f =
    let z : accepted (values x) ≡ accepted (values y) = e ∙ sym f in
    let s : values x ≡ values y = cc in
    ap {B = Result A Refusal} (λ (v : A). Ok v) (one x y refl refl s)
one_result_of values (Ok x) (Err b) one n vs h e f = let z : accepted (values x) ≡ refused (refusal_number b) = e ∙ sym f in cc
one_result_of values (Err a) (Ok y) one n vs h e f = let z : refused (refusal_number a) ≡ accepted (values y) = e ∙ sym f in cc
one_result_of {A = A} values (Err a) (Err b) one n vs h e f =
    let z : refused (refusal_number a) ≡ refused (refusal_number b) = e ∙ sym f in
    let s : refusal_number a ≡ refusal_number b = cc in
    ap {B = Result A Refusal} (λ (x : Refusal). Err x) (one_refusal a b s (λ m. h (said n e m)))
  where
    said : (k : ℕ) → refused (refusal_number a) ≡ reply k vs → refusal_number a ≡ 9 → k ≡ 9
    said zero e' m = let w : refused (refusal_number a) ≡ accepted vs = e' in cc
    said (suc k) e' m = let w : refusal_number a ≡ suc k = cc in sym w ∙ m

pub one_result : {A : Type 0} (values : A → List ℕ) (one : (x y : A) → values x ≡ values y → x ≡ y) (r r' : Result A Refusal) (n : ℕ) (vs : List ℕ)
    → (n ≡ 9 → ⊥) → answer_of values r ≡ reply n vs → answer_of values r' ≡ reply n vs → r ≡ r'
one_result values one r r' n vs h e f = one_result_of values r r' (λ x y p q s. one x y s) n vs h e f

-- the same of any two results: those that say the same, and not 9, are one result
pub answered_one : {A : Type 0} (values : A → List ℕ) (one : (x y : A) → values x ≡ values y → x ≡ y) (r r' : Result A Refusal)
    → answer_of values r ≡ answer_of values r' → (number_of (answer_of values r) ≡ 9 → ⊥) → r ≡ r'
answered_one {A = A} values one (Ok x) (Ok y) e h =
    let z : accepted (values x) ≡ accepted (values y) = e in
    let s : values x ≡ values y = cc in
    ap {B = Result A Refusal} (λ (v : A). Ok v) (one x y s)
answered_one values one (Ok x) (Err b) e h = let z : accepted (values x) ≡ refused (refusal_number b) = e in cc
answered_one values one (Err a) (Ok y) e h = let z : refused (refusal_number a) ≡ accepted (values y) = e in cc
answered_one {A = A} values one (Err a) (Err b) e h =
    let z : refused (refusal_number a) ≡ refused (refusal_number b) = e in
    let s : refusal_number a ≡ refusal_number b = cc in
    ap {B = Result A Refusal} (λ (x : Refusal). Err x) (one_refusal a b s h)
