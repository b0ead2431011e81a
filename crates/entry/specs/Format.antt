-- The bytes of a segment (document 01, "Segment bytes"): header, chunk, entry, segment. Numbers are little-endian.
-- What a reader of our proofs must believe of the format is this file, `Numbers` and `Crc`.
use Rattle.std.specs.Prelude.{ℕ, length}
use mathlib.Core.List.{List, [], ◌∷◌, ◌++◌, flat_map}
use Rattle.lists.specs.Numbers.{le}
use Rattle.crc32c.specs.Crc.{crc32c}

-- 6F 6B 77, version byte 0, length byte v, v bytes of version info
abbrev pub version : ℕ
version = 0

unfoldable pub header : (info : List ℕ) → List ℕ
header info = 0x6F ∷ 0x6B ∷ 0x77 ∷ version ∷ length info ∷ info

-- what the sum of a chunk of n bytes covers, once it has the bytes d: these. A version whose sum covers the length too would say so here, and only here
unfoldable pub covered : (n : ℕ) (d : List ℕ) → List ℕ
covered n d = d

unfoldable pub chunk_sum : (n : ℕ) (d : List ℕ) → ℕ
chunk_sum n d = crc32c (covered n d)

-- 02, length n, n bytes, their CRC-32C
unfoldable pub chunk : (d : List ℕ) → List ℕ
chunk d = 2 ∷ le 4 (length d) ++ (d ++ le 4 (chunk_sum (length d) d))

-- 01, id, chunks, 03
pub record Entry : Type 0 where
  pub id : ℕ
  pub chunks : List (List ℕ)

unfoldable pub entry : Entry → List ℕ
entry e = 1 ∷ le 8 e.id ++ (flat_map chunk e.chunks ++ (3 ∷ []))

unfoldable pub segment : (info : List ℕ) (entries : List Entry) → List ℕ
segment info entries = header info ++ flat_map entry entries

-- the largest image that holds one (document 01, "Ranges (12)")
abbrev pub largest_image : ℕ
largest_image = 1048576
