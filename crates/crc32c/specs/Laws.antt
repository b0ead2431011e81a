-- What `laws` promises of the sum.
use Rattle.std.specs.Prelude.{◌≡◌, List, [], ◌++◌, ℕ}
use Rattle.crc32c.specs.Crc.{crc_append, crc32c, AppendAllows}

abbrev pub AppendingContinues : Type 0
AppendingContinues = (c : ℕ) (s t : List ℕ) → crc_append c (s ++ t) ≡ crc_append (crc_append c s) t

abbrev pub NoBytesSumToZero : Type 0
NoBytesSumToZero = crc32c [] ≡ 0

abbrev pub AppendHasOneAnswer : Type 0
AppendHasOneAnswer = (crc : ℕ) (bytes : List ℕ) (r r' : ℕ) → AppendAllows crc bytes r → AppendAllows crc bytes r' → r ≡ r'
