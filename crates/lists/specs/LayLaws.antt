-- What `lay` keeps and what it puts there. None but the last two ask that the bytes fit.
use Rattle.std.specs.Prelude.{ℕ, suc, ◌+◌, ◌≤◌, ◌≡◌, refl, List, [], ◌∷◌, ◌++◌, length, take, drop, set}
use Rattle.std.proofs.Common.{add-zero, arith, ap, ◌∙◌, length-append, drop-set-lt, take_at, length-take-le}
use Rattle.std.proofs.lemmas.List.Edits.{sets-eq}
use Rattle.std.proofs.Math.Seq.{length-sets}
use Rattle.std.proofs.lemmas.List.{take-set-le}
use Rattle.lists.specs.Lay.{lay}

pub length-lay : (l : List ℕ) (i : ℕ) (xs : List ℕ) → length (lay l i xs) ≡ length l
unfolding lay
length-lay l i xs = length-sets l i xs

pub lay-nil : (l : List ℕ) (i : ℕ) → lay l i [] ≡ l
unfolding lay
lay-nil l i = refl

-- one store after another
pub lay-append : (l : List ℕ) (i : ℕ) (xs ys : List ℕ) (j : ℕ) → i + length xs ≡ j → lay l i (xs ++ ys) ≡ lay (lay l i xs) j ys
unfolding lay
lay-append l i [] ys j e = rw (← e, add-zero)
lay-append l i (x ∷ xs) ys j e = lay-append (set l i x) (suc i) xs ys j (omega arith)

-- what lies before it stays
pub take-lay : (l : List ℕ) (i : ℕ) (xs : List ℕ) (j : ℕ) → j ≤ i → take j (lay l i xs) ≡ take j l
unfolding lay
take-lay l i [] j h = refl
take-lay l i (x ∷ xs) j h = take-lay (set l i x) (suc i) xs j (omega arith) ∙ take-set-le j l i x h

-- and what lies behind it
pub drop-lay : (l : List ℕ) (i : ℕ) (xs : List ℕ) (k : ℕ) → i + length xs ≤ k → drop k (lay l i xs) ≡ drop k l
unfolding lay
drop-lay l i [] k h = refl
drop-lay l i (x ∷ xs) k h = drop-lay (set l i x) (suc i) xs k (omega arith) ∙ drop-set-lt k l i x (omega arith)

-- the whole buffer, where the bytes fit
pub lay-fits : (l : List ℕ) (i : ℕ) (xs : List ℕ) → i + length xs ≤ length l → lay l i xs ≡ take i l ++ xs ++ drop (i + length xs) l
unfolding lay
lay-fits l i xs h = sets-eq xs l i h

-- the bytes, behind what was there before them
pub lay_done : (l : List ℕ) (i : ℕ) (xs : List ℕ) → i + length xs ≤ length l → take (i + length xs) (lay l i xs) ≡ take i l ++ xs
lay_done l i xs h =
    ap (take (i + length xs)) (lay-fits l i xs h)
    ∙ take_at (take i l ++ xs) (drop (i + length xs) l) (i + length xs) (length-append (take i l) xs ∙ ap (λ (n : ℕ). n + length xs) (length-take-le i l (omega arith)))
