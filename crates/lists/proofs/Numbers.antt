-- A number's bytes and a number from bytes, as std has them.
use Rattle.std.specs.Prelude.{ℕ, zero, suc, ◌≡◌, List, ◌∷◌, ◌/◌, ◌%◌, ◌^◌}
use Rattle.std.specs.Int.{w32, w64, to_le_bytes, bytes_low_first}
use Rattle.std.proofs.Common.{sym, refl, ap, ◌∙◌}
use Rattle.std.proofs.Math.Nat.{div-div-eq-div-mul, div-one, pow-suc}
use Rattle.lists.specs.Numbers.{le}
use Rattle.lists.proofs.NumbersRead.{number-four, number-eight}

low_first : (i k n : ℕ) → bytes_low_first i k n ≡ le k (n / 256 ^ i)
unfolding le
low_first i zero n = refl
low_first zero (suc k) n = rw (div-one n) (ap (λ (r : List ℕ). n % 256 ∷ r) (low_first 1 k n))
low_first (suc i) (suc k) n =
    let e : n / 256 ^ suc i / 256 ≡ n / 256 ^ suc (suc i) = div-div-eq-div-mul n (256 ^ suc i) 256 ∙ ap (λ (m : ℕ). n / m) (sym (pow-suc 256 (suc i))) in
    ap (λ (r : List ℕ). n / 256 ^ suc i % 256 ∷ r) (low_first (suc (suc i)) k n ∙ ap (le k) (sym e))

pub to_le_bytes-four : (n : ℕ) → to_le_bytes w32 n ≡ le 4 n
to_le_bytes-four n = low_first 0 4 n ∙ ap (le 4) (div-one n)

pub to_le_bytes-eight : (n : ℕ) → to_le_bytes w64 n ≡ le 8 n
to_le_bytes-eight n = low_first 0 8 n ∙ ap (le 8) (div-one n)

pub ruleset bytes = (to_le_bytes-four, to_le_bytes-eight)

pub ruleset places = (number-four, number-eight)
