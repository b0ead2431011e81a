-- Document 01's bytes, computed from the definitions: P1, P2, P6.
use Rattle.std.specs.Prelude.{◌≡◌, refl, [], ◌∷◌}
use mathlib.Core.List.{flat_map}
use Rattle.lists.specs.Numbers.{le}
use Rattle.crc32c.specs.Crc.{bit_step, steps, byte_step, update, crc_append}
use Rattle.entry.specs.Format.{header, covered, chunk_sum, chunk, entry, segment}
use Rattle.entry.specs.Position.{position_bytes}

-- a fresh segment
pub p1 : segment [] [] ≡ 0x6F ∷ 0x6B ∷ 0x77 ∷ 0 ∷ 0 ∷ []
unfolding segment header flat_map
p1 = refl

-- an entry of id 1 with an empty chunk, the chunk at 14
pub p2 : segment [] (record { id = 1; chunks = [] ∷ [] } ∷ [])
    ≡ 0x6F ∷ 0x6B ∷ 0x77 ∷ 0x00 ∷ 0x00 ∷ 0x01 ∷ 0x01 ∷ 0x00 ∷ 0x00 ∷ 0x00 ∷ 0x00 ∷ 0x00 ∷ 0x00 ∷ 0x00 ∷ 0x02 ∷ 0x00 ∷ 0x00 ∷ 0x00 ∷ 0x00 ∷ 0x00 ∷ 0x00 ∷ 0x00 ∷ 0x00 ∷ 0x03 ∷ []
unfolding segment header entry chunk chunk_sum covered flat_map le crc_append update
p2 = refl

-- the position 1, 2
pub p6 : position_bytes (record { file_id = 1; offset = 2 })
    ≡ 0x01 ∷ 0x00 ∷ 0x00 ∷ 0x00 ∷ 0x00 ∷ 0x00 ∷ 0x00 ∷ 0x00 ∷ 0x02 ∷ 0x00 ∷ 0x00 ∷ 0x00 ∷ 0x00 ∷ 0x00 ∷ 0x00 ∷ 0x00 ∷ []
unfolding position_bytes le
p6 = refl

-- a chunk of three bytes: the data, then its sum
pub three : chunk (1 ∷ 2 ∷ 3 ∷ []) ≡ 0x02 ∷ 0x03 ∷ 0x00 ∷ 0x00 ∷ 0x00 ∷ 0x01 ∷ 0x02 ∷ 0x03 ∷ 0x1E ∷ 0xF2 ∷ 0x30 ∷ 0xF1 ∷ []
unfolding chunk chunk_sum covered le crc_append update byte_step steps bit_step
three = refl
