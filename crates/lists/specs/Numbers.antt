-- Numbers as bytes, the low byte first (document 01, "Segment bytes": numbers are little-endian). Total: of a number that does not fit, the low
-- bytes; of bytes past a list's end, zeros. The laws are in `NumbersLaws`.
use Rattle.std.specs.Prelude.{List, [], ◌∷◌, ℕ, zero, suc, ◌+◌, ◌*◌, ◌/◌, ◌%◌, take, drop}

-- the k bytes of n
unfoldable pub le : ℕ → ℕ → List ℕ
le zero n = []
le (suc k) n = n % 256 ∷ le k (n / 256)

-- the number that bytes stand for
unfoldable pub from_le : List ℕ → ℕ
from_le [] = 0
from_le (b ∷ bs) = from_le bs * 256 + b

-- the number in the k bytes at the place p
unfoldable pub number : ℕ → List ℕ → ℕ → ℕ
number k image p = from_le (take k (drop p image))
