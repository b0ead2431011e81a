-- The theorems on segments of a few bytes: P2, a segment with two entries and data, what is passed behind a segment, and an entry as it stands. The
-- readings are computed from the definitions, the sums too.
use mathlib.Core.Path.{◌≡◌, refl}
use mathlib.Core.Bool.{Bool, true, false, cond}
use mathlib.Core.List.{List, [], ◌∷◌, ◌++◌, flat_map}
use Prim.Native.Nat.{ℕ, zero, suc}
use native.Mathlib.Omega.{arith}
use lib.ListN.{length, replicate}
use lib.Dec.{ltb, lit<, lit≤}
use borrow.Author.Tests.{ltb-true}
use Rattle.lists.specs.Stream.{part}
use Rattle.lists.specs.Walk.{walk, around}
use Rattle.lists.specs.Numbers.{le, from_le, number}
use Rattle.lists.specs.NumbersLaws.{Bytes}
use Rattle.crc32c.specs.Crc.{bit_step, steps, byte_step, update, crc_append}
use Rattle.entry.specs.Format.{header, covered, chunk_sum, chunk, Entry, entry, segment}
use Rattle.reading.specs.Reading.{standing, skip_turn, skip, complete, also, whole_turn, whole, chunks_at, left, lead, opened}
use Rattle.reading.specs.WholeReading.{Found, landed, onward, with_entry, read_turn, read_from, Outcome, read, read_opened, read_segment}
use Rattle.lists.specs.All.{All}
use Rattle.entry.specs.Writable.{Writable}
use Rattle.reading.specs.Yielded.{as_found, yields, yielded, ReadsBack, ReadsFirst, behind}
use Rattle.reading.specs.RoundTrip.{round_trip, round-trip-zeros, entries-come-first}
use Rattle.reading.specs.Soundness.{sound}

abbrev found : (place id count q : ℕ) → Found
found place id count q = record { place = place; id = id; contents = complete count q }

abbrev reads : List Found → (valid_until : ℕ) → Outcome
reads fs v = read (record { entries = fs; valid_until = v })

-- ---- P2, an entry of id 1 with an empty chunk; and two entries with data (the sum of the nine digits is E3069283)

abbrev p2 : List ℕ
p2 = 0x6F ∷ 0x6B ∷ 0x77 ∷ 0 ∷ 0 ∷ 1 ∷ 1 ∷ 0 ∷ 0 ∷ 0 ∷ 0 ∷ 0 ∷ 0 ∷ 0 ∷ 2 ∷ 0 ∷ 0 ∷ 0 ∷ 0 ∷ 0 ∷ 0 ∷ 0 ∷ 0 ∷ 3 ∷ []

abbrev p2Found : Found
p2Found = found 5 1 1 24

abbrev digits : List ℕ
digits = 49 ∷ 50 ∷ 51 ∷ 52 ∷ 53 ∷ 54 ∷ 55 ∷ 56 ∷ 57 ∷ []

abbrev two : List Entry
two = record { id = 7; chunks = digits ∷ [] ∷ [] } ∷ record { id = 3; chunks = [] } ∷ []

abbrev two_bytes : List ℕ
two_bytes =
    (0x6F ∷ 0x6B ∷ 0x77 ∷ 0 ∷ 1 ∷ 0xAA ∷ [])
    ++ (1 ∷ 7 ∷ 0 ∷ 0 ∷ 0 ∷ 0 ∷ 0 ∷ 0 ∷ 0 ∷ [])
    ++ (2 ∷ 9 ∷ 0 ∷ 0 ∷ 0 ∷ 49 ∷ 50 ∷ 51 ∷ 52 ∷ 53 ∷ 54 ∷ 55 ∷ 56 ∷ 57 ∷ 0x83 ∷ 0x92 ∷ 0x06 ∷ 0xE3 ∷ [])
    ++ (2 ∷ 0 ∷ 0 ∷ 0 ∷ 0 ∷ 0 ∷ 0 ∷ 0 ∷ 0 ∷ 3 ∷ [])
    ++ (1 ∷ 3 ∷ 0 ∷ 0 ∷ 0 ∷ 0 ∷ 0 ∷ 0 ∷ 0 ∷ 3 ∷ [])

abbrev two_found : List Found
two_found = found 6 7 2 43 ∷ found 43 3 0 53 ∷ []

-- a 03, and an entry
abbrev stray : List ℕ
stray = 3 ∷ 1 ∷ 9 ∷ 0 ∷ 0 ∷ 0 ∷ 0 ∷ 0 ∷ 0 ∷ 0 ∷ 3 ∷ []

-- ---- readings, computed

pub record Computed : Type 0 where
  pub p2-read : read_segment 1 p2 ≡ reads (p2Found ∷ []) 24
  pub two-read : read_segment 3 two_bytes ≡ reads two_found 53
  -- an id below the file's ends the reading
  pub below : read_segment 2 p2 ≡ reads [] 5
  -- zeros behind end it; a stray 03 is passed, and an entry behind it is found; a chunk header that is cut off puts the place at the image's end
  pub zeros-behind : read_segment 1 (p2 ++ replicate 40 0) ≡ reads (p2Found ∷ []) 24
  pub stray-behind : read_segment 3 (two_bytes ++ stray) ≡ reads (two_found ++ found 54 9 0 64 ∷ []) 64
  pub header-behind : read_segment 1 (p2 ++ 2 ∷ []) ≡ reads (p2Found ∷ []) 25

pub computed : Computed
unfolding read_segment read_opened opened read_from read_turn with_entry onward landed left lead whole whole_turn also skip skip_turn standing
    walk around number from_le chunk_sum covered crc_append update byte_step steps bit_step
computed = record { p2-read = refl; two-read = refl; below = refl; zeros-behind = refl; stray-behind = refl; header-behind = refl }

-- ---- the two entries by the theorems: alone, with zeros behind, with a stray 03 and an entry behind; and the bytes, what is found and what is
-- yielded, computed

two-writable : All (Writable 3) two
two-writable = (
  record { not_below = lit≤ tt; id_fits = lit< tt; chunks_fit = (lit< tt, (lit< tt, tt)) },
  (record { not_below = lit≤ tt; id_fits = lit< tt; chunks_fit = tt }, tt),
)

abbrev two_segment : List ℕ
two_segment = segment (0xAA ∷ []) two

pub two_back : ReadsBack 3 two_segment (0xAA ∷ []) two
two_back = round_trip 3 (0xAA ∷ []) two two-writable

pub two-zeros : ReadsBack 3 (two_segment ++ replicate 40 0) (0xAA ∷ []) two
two-zeros = round-trip-zeros 3 (0xAA ∷ []) two two-writable 40

pub two-first : ReadsFirst 3 (two_segment ++ stray) (0xAA ∷ []) two (read_from 3 (two_segment ++ stray) (behind (two_segment ++ stray) two (length two_segment)))
two-first = entries-come-first 3 (0xAA ∷ []) two two-writable stray

pub two_bytes_are : segment (0xAA ∷ []) two ≡ two_bytes
unfolding segment header entry chunk flat_map le chunk_sum covered crc_append update byte_step steps bit_step
two_bytes_are = refl

pub two-found : as_found 6 two ≡ two_found
unfolding as_found entry chunk flat_map le
two-found = refl

pub two-yielded : yielded two_bytes two_found ≡ two
unfolding yielded yields flat_map chunks_at number from_le
two-yielded = refl

-- ---- what was found in P2 stands there, by the theorem

unfoldable is_bytes : List ℕ → Bool
is_bytes [] = true
is_bytes (b ∷ s) = cond (ltb b 256) (is_bytes s) false

are-bytes : (s : List ℕ) → is_bytes s ≡ true → Bytes s
unfolding is_bytes
are-bytes [] e = λ i h. absurd (omega arith)
are-bytes (b ∷ s) e = go (ltb b 256) refl e (are-bytes s)
  where
    go : (a : Bool) → ltb b 256 ≡ a → cond a (is_bytes s) false ≡ true → (is_bytes s ≡ true → Bytes s) → Bytes (b ∷ s)
    go true small e rest zero h = ltb-true b 256 small
    go true small e rest (suc i) h = rest e i (omega arith)
    go false small e rest i h = let x : ◌≡◌ {A = ℕ} 0 1 = cc in absurd (omega arith)

pub p2-stands : part p2 5 19 ≡ entry (record { id = 1; chunks = [] ∷ [] })
unfolding is_bytes chunks_at number from_le
p2-stands = (sound p2 (are-bytes p2 refl) 1 _ computed.p2-read).0.bytes_are
