-- The first part of a list that was joined, and of a first part.
use Rattle.std.specs.Prelude.{ℕ, zero, suc, ◌-◌, min, ◌≡◌, refl, List, [], ◌∷◌, ◌++◌, length, take}
use Rattle.std.proofs.Math.Nat.{zero-sub, sub-zero, suc-sub-suc, zero-min, min-zero, suc-min-suc}

pub take-append : (k : ℕ) (a b : List ℕ) → take k (a ++ b) ≡ take k a ++ take (k - length a) b
take-append zero [] b = refl
take-append zero (x ∷ a) b = rw zero-sub
take-append (suc k) [] b = rw sub-zero
take-append (suc k) (x ∷ a) b = rw (suc-sub-suc, take-append k a b)

pub take_min : (k j : ℕ) (l : List ℕ) → take k (take j l) ≡ take (min j k) l
take_min zero j l = rw min-zero
take_min (suc k) zero l = rw zero-min
take_min (suc k) (suc j) [] = rw suc-min-suc
take_min (suc k) (suc j) (x ∷ l) = rw (suc-min-suc, take_min k j l)
