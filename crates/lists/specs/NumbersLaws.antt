-- Numbers there and back, once over the width. The laws of a number read at a place, byte by byte, are in proofs/NumbersRead.
use Rattle.std.specs.Prelude.{◌≡◌, refl, List, [], ◌∷◌, ℕ, zero, suc, ◌*◌, ◌/◌, ◌^◌, ◌<◌, length, get_or}
use Rattle.std.proofs.Common.{ap, suc-le-suc, mul-suc, zero-lt-suc, arith, shr_lt, pow-add, lit<}
use Rattle.std.proofs.Math.Pow.{split, high, low}
use Rattle.std.proofs.Math.Arith.{digits_lt}
use Rattle.lists.specs.Numbers.{le, from_le}

-- every element is a byte
abbrev pub Bytes : List ℕ → Type 0
Bytes s = (i : ℕ) → i < length s → get_or s i 0 < 256

pub length-le : (k n : ℕ) → length (le k n) ≡ k
unfolding le
length-le zero n = refl
length-le (suc k) n = ap suc (length-le k (n / 256))

pub from_le-le : (k n : ℕ) → n < 2 ^ (8 * k) → from_le (le k n) ≡ n
unfolding le from_le
from_le-le zero n h = omega arith
from_le-le (suc k) n h = rw (from_le-le k (n / 256) (shr_lt (8 * k) 8 (rw mul-suc at h))) (split n 8)

pub le-from_le : (k : ℕ) (s : List ℕ) → length s ≡ k → Bytes s → le k (from_le s) ≡ s
unfolding le from_le
le-from_le zero [] e h = refl
le-from_le zero (b ∷ s) e h = absurd (omega arith)
le-from_le (suc k) [] e h = absurd (omega arith)
le-from_le (suc k) (b ∷ s) e h =
    let hb : b < 256 = h 0 (zero-lt-suc _) in
    rw (low (from_le s) 8 hb, high (from_le s) 8 hb, le-from_le k s (omega arith) (λ i l. h (suc i) (suc-le-suc l)))

pub from_le-lt : (k : ℕ) (s : List ℕ) → length s ≡ k → Bytes s → from_le s < 2 ^ (8 * k)
unfolding from_le
from_le-lt zero [] e h = lit< tt
from_le-lt zero (b ∷ s) e h = absurd (omega arith)
from_le-lt (suc k) [] e h = absurd (omega arith)
from_le-lt (suc k) (b ∷ s) e h =
    rw (mul-suc 8 k, pow-add 2 (8 * k) 8) (digits_lt (from_le-lt k s (omega arith) (λ i l. h (suc i) (suc-le-suc l))) (h 0 (zero-lt-suc _)))
