-- A number read at a place, byte by byte: bytes past the end count as zeros, so nothing is asked of the place. These laws stand here and not in specs/,
-- since a must-fail edit changes `from_le`: `number-suc` then falls, and the others wait for it.
use Rattle.std.specs.Prelude.{◌≡◌, refl, List, [], ◌∷◌, ℕ, suc, ◌+◌, ◌*◌, get_or, take, drop}
use Rattle.std.proofs.Common.{add-zero, arith, drop-drop, get_or-drop}
use Rattle.std.proofs.Math.Seq.{take-nil}
use Rattle.lists.specs.Numbers.{from_le, number}

pub number-suc : (image : List ℕ) (p k q : ℕ) → p + 1 ≡ q → number (suc k) image p ≡ number k image q * 256 + get_or image p 0
unfolding number from_le
number-suc image p k q e = rw (← e, ← drop-drop 1 p image, ← add-zero p, ← get_or-drop p image 0 0, add-zero p) (go (drop p image))
  where
    go : (s : List ℕ) → from_le (take (suc k) s) ≡ from_le (take k (drop 1 s)) * 256 + get_or s 0 0
    go [] = rw take-nil
    go (b ∷ s) = refl

number-zero : (image : List ℕ) (p : ℕ) → number 0 image p ≡ 0
unfolding number from_le
number-zero image p = refl

pub number-four : (image : List ℕ) (p : ℕ)
    → number 4 image p ≡ get_or image p 0 + get_or image (p + 1) 0 * 256 + (get_or image (p + 2) 0 + get_or image (p + 3) 0 * 256) * 65536
number-four image p =
    omega (
      arith,
      number-suc image p 3 (p + 1) refl,
      number-suc image (p + 1) 2 (p + 2) (omega arith),
      number-suc image (p + 2) 1 (p + 3) (omega arith),
      number-suc image (p + 3) 0 (p + 4) (omega arith),
      number-zero image (p + 4),
    )

pub number-eight : (image : List ℕ) (p : ℕ) → number 8 image p ≡ number 4 image p + number 4 image (p + 4) * 4294967296
number-eight image p =
    omega (
      arith,
      number-four image p,
      number-suc image p 7 (p + 1) refl,
      number-suc image (p + 1) 6 (p + 2) (omega arith),
      number-suc image (p + 2) 5 (p + 3) (omega arith),
      number-suc image (p + 3) 4 (p + 4) (omega arith),
    )
