-- CRC-32C as RFC 3720 has it, in the reflected form: the register's lowest bit is the next to go out. The register is all ones at the start and
-- is complemented at the end. Every definition is total, so that the laws (`CrcLaws`) hold for any register and any list.
use Rattle.std.specs.Prelude.{List, [], ◌∷◌, ◌≡◌, ℕ, zero, suc, ◌-◌, ◌/◌, ◌%◌, ◌^◌}
use Rattle.std.specs.Int.Bits.{bit_xor}

-- 0x1EDC6F41 with its 32 bits in reverse
abbrev pub poly : ℕ
poly = 0x82F6_3B78

-- what goes onto the register where the bit b went out of it
abbrev pub tap : ℕ → ℕ
tap zero = 0
tap (suc b) = poly

unfoldable pub bit_step : ℕ → ℕ
bit_step r = bit_xor (r / 2) (tap (r % 2))

unfoldable pub steps : ℕ → ℕ → ℕ
steps zero r = r
steps (suc n) r = bit_step (steps n r)

-- a byte goes onto the register's low end, and its eight bits go out. Of a number that is no byte, the eight low bits count.
unfoldable pub byte_step : ℕ → ℕ → ℕ
byte_step r b = steps 8 (bit_xor r (b % 256))

unfoldable pub update : ℕ → List ℕ → ℕ
update r [] = r
update r (b ∷ s) = update (byte_step r b) s

-- all ones less c: each of the 32 bits turned
abbrev pub complement : ℕ → ℕ
complement c = (2 ^ 32 - 1) - c

-- the sum of what the sum c is of, and then s
unfoldable pub crc_append : ℕ → List ℕ → ℕ
crc_append c s = complement (update (complement c) s)

abbrev pub crc32c : List ℕ → ℕ
crc32c s = crc_append 0 s

-- ---- what `append` may answer

abbrev pub AppendAllows : (crc : ℕ) (bytes : List ℕ) (result : ℕ) → Type 0
AppendAllows crc bytes result = result ≡ crc_append crc bytes
