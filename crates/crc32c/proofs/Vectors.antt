-- The examples of RFC 3720, appendix B.4, and the usual check value of nine digits, computed by the definition itself. (The crate `rfc3720` runs
-- the code on them.)
use Rattle.std.specs.Prelude.{◌≡◌, refl, List, [], ◌∷◌, ◌++◌, ℕ, zero, suc, replicate, reverse}
use Rattle.crc32c.specs.Crc.{bit_step, steps, byte_step, update, crc_append, crc32c}

-- the n numbers from i up
abbrev pub up_from : ℕ → ℕ → List ℕ
up_from i zero = []
up_from i (suc n) = i ∷ up_from (suc i) n

pub zeros : crc32c (replicate 32 0) ≡ 0x8A91_36AA
unfolding bit_step steps byte_step update crc_append
zeros = refl

pub ones : crc32c (replicate 32 255) ≡ 0x62A8_AB43
unfolding bit_step steps byte_step update crc_append
ones = refl

pub up : crc32c (up_from 0 32) ≡ 0x46DD_794E
unfolding bit_step steps byte_step update crc_append
up = refl

pub down : crc32c (reverse (up_from 0 32)) ≡ 0x113F_DB5C
unfolding bit_step steps byte_step update crc_append
down = refl

-- an iSCSI read command
pub command : crc32c
    (0x01 ∷ 0xC0 ∷ replicate 14 0 ++ 0x14 ∷ 0 ∷ 0 ∷ 0 ∷ 0 ∷ 0 ∷ 0x04 ∷ 0 ∷ 0 ∷ 0 ∷ 0 ∷ 0x14 ∷ 0 ∷ 0 ∷ 0 ∷ 0x18 ∷ 0x28 ∷ replicate 7 0 ++ 0x02 ∷ replicate 7 0)
    ≡ 0xD996_3A56
unfolding bit_step steps byte_step update crc_append
command = refl

pub nine : crc32c (49 ∷ 50 ∷ 51 ∷ 52 ∷ 53 ∷ 54 ∷ 55 ∷ 56 ∷ 57 ∷ []) ≡ 0xE306_9283
unfolding bit_step steps byte_step update crc_append
nine = refl
