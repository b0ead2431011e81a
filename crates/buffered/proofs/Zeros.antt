-- Zeros stored some at a time, as the loop's invariant has it: what is left of them, behind what is stored.
use Prim.Native.Nat.{ℕ, zero, suc, ◌+◌, ◌-◌, ◌≤◌}
use native.Mathlib.Nat.{add-zero}
use native.Mathlib.Omega.{arith}
use mathlib.Core.Path.{◌≡◌, refl, ap, sym, ◌∙◌}
use mathlib.Core.List.{List, ◌∷◌, ◌++◌}
use lib.ListN.{length, take, replicate, length-replicate, replicate-append-replicate}
use Rattle.lists.specs.Lay.{lay}
use Rattle.lists.specs.LayLaws.{lay-nil, lay-append}

take-zeros : (k n : ℕ) → k ≤ n → take {A = ℕ} k (replicate n 0) ≡ replicate k 0
take-zeros zero n h = refl
take-zeros (suc k) zero h = absurd (omega arith)
take-zeros (suc k) (suc n) h = ap (λ (l : List ℕ). 0 ∷ l) (take-zeros k n (omega arith))

pub sixty-four : (zeros : List ℕ) → zeros ≡ replicate 64 0 → length zeros ≡ 64
sixty-four zeros e = ap length e

pub begins : (d : List ℕ) (at count : ℕ) → lay d (at + 0) (replicate (count - 0) 0) ≡ lay d at (replicate count 0)
begins d at count = let e : count - 0 ≡ count = omega arith in rw (add-zero, e)

pub goes_on : (d e : List ℕ) (at count i k : ℕ) (zeros : List ℕ) {l : List ℕ} → k ≤ 64 → i + k ≤ count → zeros ≡ replicate 64 0
    → e ≡ lay d (at + i) (take k zeros) → lay d (at + i) (replicate (count - i) 0) ≡ l → lay e (at + (i + k)) (replicate (count - (i + k)) 0) ≡ l
goes_on d e at count i k zeros h g z s inv =
    let c : count - i ≡ k + (count - (i + k)) = omega arith in
    let t : take k zeros ≡ replicate k 0 = ap (take k) z ∙ take-zeros k 64 h in
    let j : at + i + length (replicate {A = ℕ} k 0) ≡ at + (i + k) = omega (arith, length-replicate {A = ℕ} k 0) in
    let split : lay d (at + i) (replicate k 0 ++ replicate (count - (i + k)) 0) ≡ _ = rw (c, ← (replicate-append-replicate {A = ℕ} k (count - (i + k)) 0)) at inv in
    rw (s, t) (sym (lay-append d (at + i) (replicate k 0) (replicate (count - (i + k)) 0) (at + (i + k)) j) ∙ split)

pub ends : (d : List ℕ) (at count i : ℕ) {l : List ℕ} → count ≤ i → lay d (at + i) (replicate (count - i) 0) ≡ l → d ≡ l
ends d at count i h inv =
    let z : count - i ≡ 0 = omega arith in
    sym (lay-nil d (at + i)) ∙ rw z at inv
