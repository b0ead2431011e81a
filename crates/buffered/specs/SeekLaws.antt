-- Any two answers that `seek` may give are equal.
use Rattle.std.specs.Prelude.{ℕ, ◌≡◌, refl, Option, Some, None}
use Rattle.std.proofs.Common.{arith, sym, ◌∙◌}
use Rattle.std.specs.declared.io.SeekFrom.{SeekFrom}
use Rattle.buffered.specs.Seek.{landed_as, SeekAllows}

pub landed-one : (a b : Option ℕ) → landed_as a ≡ landed_as b → a ≡ b
landed-one (Some p) (Some q) e = cc
landed-one (Some p) None e = let z : ◌≡◌ {A = ℕ} 0 1 = cc in absurd (omega arith)
landed-one None (Some q) e = let z : ◌≡◌ {A = ℕ} 0 1 = cc in absurd (omega arith)
landed-one None None e = refl

pub seek-one-answer : (from : SeekFrom) (length position size : ℕ) (a b : Option ℕ)
    → SeekAllows from length position size a → SeekAllows from length position size b → a ≡ b
seek-one-answer from length position size a b x y = landed-one a b (x ∙ sym y)
