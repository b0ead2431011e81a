-- What the definitions of `Text` mean, and that each promise allows one answer. Worked examples are in `TextExamples`.
use Rattle.std.specs.Prelude.{◌≡◌, refl, Bool, true, false, cond, List, [], ◌∷◌, ◌++◌, ℕ, suc, ◌+◌, ◌-◌, ◌*◌, ◌^◌, ◌≤◌, ◌<◌, length, drop, eqb, Option, Some, None}
use Rattle.std.proofs.Common.{ap, sym, ◌∙◌, mul_assoc, pow-suc, add-one, arith, length-append, length-drop, eqb-true, eq-eqb, ne_eqb}
use Rattle.std.proofs.lemmas.Bool.{eqb-false}
use Rattle.lists.specs.All.{All}
use Rattle.lists.specs.AnswersLaws.{both}
use Rattle.lists.specs.ChoiceLaws.{either}
use Rattle.text.specs.Text.{first, same, until, behind, place, words_from, word_at, value, decimal, or_zero, UnhexAllows}

-- ---- the same text is the same list

pub same_true : (a b : List ℕ) → same a b ≡ true → a ≡ b
unfolding same
same_true [] [] e = refl
same_true [] (y ∷ b) e = let z : ◌≡◌ {A = ℕ} 0 1 = cc in absurd (omega arith)
same_true (x ∷ a) [] e = let z : ◌≡◌ {A = ℕ} 0 1 = cc in absurd (omega arith)
same_true (x ∷ a) (y ∷ b) e =
    let h = both (eqb x y) (same a b) e in
    let p = eqb-true x y h.0 in
    let q = same_true a b h.1 in
    cc

same-itself : (a : List ℕ) → same a a ≡ true
unfolding same
same-itself [] = refl
same-itself (x ∷ a) = rw (eq-eqb x x refl, same-itself a)

pub same_false : (a b : List ℕ) → same a b ≡ false → a ≡ b → ⊥
same_false a b e p = let t : same a b ≡ true = rw p (same-itself b) in let z : ◌≡◌ {A = ℕ} 0 1 = cc in omega arith

-- ---- what stands before a stop and behind it, and so the words of a line

-- nowhere in it
abbrev pub Free : (stop : ℕ) → List ℕ → Type 0
Free stop s = All (λ (c : ℕ). c ≡ stop → ⊥) s

pub until_stop : (stop : ℕ) (w rest : List ℕ) → Free stop w → until stop (w ++ stop ∷ rest) ≡ w
unfolding until
until_stop stop [] rest h = rw (eq-eqb stop stop refl)
until_stop stop (c ∷ w) rest h = rw (ne_eqb c stop h.0, until_stop stop w rest h.1)

pub behind-stop : (stop : ℕ) (w rest : List ℕ) → Free stop w → behind stop (w ++ stop ∷ rest) ≡ rest
unfolding behind
behind-stop stop [] rest h = rw (eq-eqb stop stop refl)
behind-stop stop (c ∷ w) rest h = rw (ne_eqb c stop h.0, behind-stop stop w rest h.1)

pub until_none : (stop : ℕ) (w : List ℕ) → Free stop w → until stop w ≡ w
unfolding until
until_none stop [] h = refl
until_none stop (c ∷ w) h = rw (ne_eqb c stop h.0, until_none stop w h.1)

-- and the other way: there is no stop before the first one, and at it there is one
pub until-free : (stop : ℕ) (s : List ℕ) → Free stop (until stop s)
unfolding until
until-free stop [] = tt
until-free stop (c ∷ s) =
    let rest = until-free stop s in
    either (λ (l : List ℕ). Free stop l) (eqb c stop) [] (c ∷ until stop s) (λ e. tt) (λ e. (eqb-false c stop e, rest))

pub at-stop : (stop : ℕ) (s : List ℕ) → length (until stop s) < length s → s ≡ until stop s ++ stop ∷ behind stop s
unfolding until behind
at-stop stop [] h = absurd (omega arith)
at-stop stop (c ∷ s) h = turn (eqb c stop) refl h (at-stop stop s)
  where
    turn : (b : Bool) → eqb c stop ≡ b → length (cond b [] (c ∷ until stop s)) < suc (length s)
        → (length (until stop s) < length s → s ≡ until stop s ++ stop ∷ behind stop s)
        → c ∷ s ≡ cond b [] (c ∷ until stop s) ++ stop ∷ cond b s (behind stop s)
    turn true e h rest = ap {B = List ℕ} (λ x. x ∷ s) (eqb-true c stop e)
    turn false e h rest = ap {B = List ℕ} (λ l. c ∷ l) (rest (omega arith))

until-le : (stop : ℕ) (s : List ℕ) → length (until stop s) ≤ length s
unfolding until
until-le stop [] = omega arith
until-le stop (c ∷ s) =
    let rest = until-le stop s in
    either (λ (l : List ℕ). length l ≤ suc (length s)) (eqb c stop) [] (c ∷ until stop s) (λ e. omega arith) (λ e. omega arith)

-- a place within the text, not before the one searched from
pub place-le : (s : List ℕ) (from stop : ℕ) → place s from stop ≤ length s
unfolding place
place-le s from stop = omega (arith, until-le stop (drop from s), length-drop from s)

pub place-ge : (s : List ℕ) (from stop : ℕ) → from ≤ length s → from ≤ place s from stop
unfolding place
place-ge s from stop h = omega arith

pub first_word : (w rest : List ℕ) → Free 32 w → word_at 0 (w ++ 32 ∷ rest) ≡ w
unfolding word_at words_from
first_word w rest h = until_stop 32 w rest h

pub only-word : (w : List ℕ) → Free 32 w → word_at 0 w ≡ w
unfolding word_at words_from
only-word w h = until_none 32 w h

pub next_word : (k : ℕ) (w rest : List ℕ) → Free 32 w → word_at (suc k) (w ++ 32 ∷ rest) ≡ word_at k rest
unfolding word_at words_from
next_word k w rest h = rw (behind-stop 32 w rest h)

-- ---- a digit more makes ten times the number and the digit

pub value-more : (s : List ℕ) (c : ℕ) → value (s ++ (c ∷ [])) ≡ value s * 10 + (c - 48)
unfolding value
value-more [] c = omega arith
value-more (d ∷ s) c =
    rw (value-more s c, length-append s (c ∷ []), add-one (length s), pow-suc 10 (length s), ← mul_assoc (d - 48) (10 ^ length s) 10)
    (omega arith)

-- ---- any two answers that a promise allows are equal

pub first-one-answer : (s : List ℕ) (n : ℕ) (r r' : List ℕ) → r ≡ first n s → r' ≡ first n s → r ≡ r'
first-one-answer s n r r' x y = x ∙ sym y

pub same-one-answer : (a b : List ℕ) (r r' : Bool) → r ≡ same a b → r' ≡ same a b → r ≡ r'
same-one-answer a b r r' x y = x ∙ sym y

pub find-one-answer : (s : List ℕ) (from stop r r' : ℕ) → r ≡ place s from stop → r' ≡ place s from stop → r ≡ r'
find-one-answer s from stop r r' x y = x ∙ sym y

pub word-one-answer : (line : List ℕ) (k : ℕ) (r r' : List ℕ) → r ≡ word_at k line → r' ≡ word_at k line → r ≡ r'
word-one-answer line k r r' x y = x ∙ sym y

-- answers that give the same numbers are the same answer
number-one : (a b : Option ℕ) → ((n : ℕ) → a ≡ Some n → b ≡ Some n) → ((n : ℕ) → b ≡ Some n → a ≡ Some n) → a ≡ b
number-one (Some m) b there back = sym (there m refl)
number-one None (Some n) there back = back n refl
number-one None None there back = refl

pub decimal-one-answer : (s : List ℕ) (r r' : Option ℕ) → r ≡ decimal s → r' ≡ decimal s → r ≡ r'
decimal-one-answer s r r' x y = x ∙ sym y

pub decimal-or-zero-one-answer : (s : List ℕ) (r r' : ℕ) → r ≡ or_zero (decimal s) → r' ≡ or_zero (decimal s) → r ≡ r'
decimal-or-zero-one-answer s r r' x y = x ∙ sym y

-- the number, and the buffer that is left
pub unhex-one-answer : (s buffer : List ℕ) (r r' : ℕ) (b b' : List ℕ) → UnhexAllows s buffer r b → UnhexAllows s buffer r' b' → (r ≡ r') × (b ≡ b')
unhex-one-answer s buffer r r' b b' x y = (x.0 ∙ sym y.0, x.1 ∙ sym y.1)
