-- Two texts that std's `==` finds equal, byte by byte.
use Rattle.std.proofs.Common.{◌≡◌, refl, ◌∙◌, Bool, List, [], ◌∷◌, ℕ, ◌&&◌, eqb, nat_eq, ap}
use Rattle.std.specs.Cmp.Lexicographic.{pointwise}
use Rattle.text.specs.Text.{same}

same_by_std : (a b : List ℕ) → pointwise nat_eq a b ≡ same a b
unfolding same
same_by_std [] [] = refl
same_by_std [] (y ∷ b) = refl
same_by_std (x ∷ a) [] = refl
same_by_std (x ∷ a) (y ∷ b) = ap (λ r. eqb x y && r) (same_by_std a b)

pub equal : (a b : List ℕ) {r : Bool} → r ≡ pointwise nat_eq a b → r ≡ same a b
equal a b e = e ∙ same_by_std a b
