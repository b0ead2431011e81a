-- How long the format's pieces are, and that a chunk's sum fits its four bytes. Nothing else is used of the sum: what it covers may change here
-- alone.
use Rattle.std.specs.Prelude.{ℕ, ◌+◌, ◌^◌, ◌<◌, ◌≡◌, length}
use Rattle.std.proofs.Common.{arith, length-append}
use mathlib.Core.List.{List, [], flat_map}
use Rattle.lists.specs.NumbersLaws.{length-le}
use Rattle.crc32c.specs.CrcLaws.{crc_append-lt, crc32c-nil}
use Rattle.entry.specs.Format.{header, covered, chunk_sum, chunk, Entry, entry, segment}

pub chunk_sum-lt : (n : ℕ) (d : List ℕ) → chunk_sum n d < 2 ^ 32
unfolding chunk_sum
chunk_sum-lt n d = crc_append-lt 0 (covered n d)

pub length-header : (info : List ℕ) → length (header info) ≡ 5 + length info
unfolding header
length-header info = omega arith

pub length-chunk : (d : List ℕ) → length (chunk d) ≡ 9 + length d
unfolding chunk
length-chunk d = simp (length-append, length-le) (omega arith)

pub length-entry : (e : Entry) → length (entry e) ≡ 10 + length (flat_map chunk e.chunks)
unfolding entry
length-entry e = simp (length-append, length-le) (omega arith)

pub length-segment : (info : List ℕ) (entries : List Entry) → length (segment info entries) ≡ 5 + length info + length (flat_map entry entries)
unfolding segment
length-segment info entries = simp (length-append, length-header)

-- the sum that a chunk begins with
pub chunk_sum-none : (n : ℕ) → chunk_sum n [] ≡ 0
unfolding chunk_sum covered
chunk_sum-none n = crc32c-nil
