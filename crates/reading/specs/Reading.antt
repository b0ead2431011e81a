-- What a reader finds in an image (document 01, "The reader"): plain functions of the image's bytes, a place in it and the file id. Places are exact:
-- they may lie past the image's end. The laws are in `ReadingLaws`.
use Rattle.std.specs.Prelude.{Bool, cond, ◌&&◌, List, [], ◌∷◌, ℕ, zero, suc, ◌+◌, ◌-◌, length, get_or, leb, eqb, Result, Ok, Err}
use Rattle.lists.specs.Stream.{part}
use Rattle.lists.specs.Walk.{Turn, stop, on, around}
use Rattle.lists.specs.Numbers.{number}
use Rattle.entry.specs.Format.{chunk_sum}
use Rattle.entry.specs.declared.CutPart.{CutPart}
use Rattle.entry.specs.declared.CutPart.TheVariants.{Header, Data, Crc}
use Rattle.entry.specs.declared.ChunkCut.{ChunkCut}
use Rattle.reading.specs.declared.walks.Next.{Next}
use Rattle.reading.specs.declared.walks.Next.TheVariants.{Seek, Pass}

-- ---- what stands at a place: a chunk's 02 and its length; a 02 whose header is cut off, with the bytes it lacks; 03; another byte, or none

pub data Mark : Type 0 where
  chunk cut : ℕ → Mark
  close other : Mark

unfoldable pub standing : List ℕ → ℕ → Mark
standing image p =
    cond (eqb (get_or image p 0) 2)
    (cond (leb (p + 5) (length image)) (chunk (number 4 image (p + 1))) (cut (p + 5 - length image)))
    (cond (eqb (get_or image p 0) 3) close other)

-- ---- a cut, as the code has it: the part that lacks bytes, the offset of the chunk's 02, and how many bytes that part lacks

abbrev pub header_cut : (p lacks : ℕ) → ChunkCut
header_cut p k = record { part = Header; mark = p; lacks = k }

-- the chunk of n bytes at p does not lie inside the image: its data is cut before its sum
unfoldable pub body_cut : List ℕ → (p n : ℕ) → ChunkCut
body_cut image p n =
    cond (leb (p + 5 + n) (length image))
    (record { part = Crc; mark = p; lacks = p + 9 + n - length image })
    (record { part = Data; mark = p; lacks = p + 5 + n - length image })

-- ---- a chunk: its data, whether it lies inside the image, and whether its stored sum is its data's

abbrev pub chunk_data : List ℕ → (p n : ℕ) → List ℕ
chunk_data image p n = part image (p + 5) n

abbrev pub fits : List ℕ → (p n : ℕ) → Bool
fits image p n = leb (p + 9 + n) (length image)

abbrev pub matches : List ℕ → (p n : ℕ) → Bool
matches image p n = eqb (number 4 image (p + 5 + n)) (chunk_sum n (chunk_data image p n))

-- the check of a chunk's sum: what came of it, or where the chunk is cut
unfoldable pub checked : List ℕ → (p n : ℕ) → Result Bool ChunkCut
checked image p n = cond (fits image p n) (Ok (matches image p n)) (Err (body_cut image p n))

-- ---- chunks are skipped until something else is met; a 03 met there is passed, a header that is cut off is reported

pub data Skipped : Type 0 where
  at : ℕ → Skipped
  broken : ChunkCut → Skipped

unfoldable pub skip_turn : ℕ → Mark → Turn Skipped
skip_turn p (chunk n) = on (p + 9 + n) (λ r. r)
skip_turn p close = stop (at (p + 1))
skip_turn p (cut k) = stop (broken (header_cut p k))
skip_turn p other = stop (at p)

unfoldable pub skip : List ℕ → ℕ → Skipped
skip image p = around (λ q. skip_turn q (standing image q)) (at 0) (length image) p

-- ---- a whole entry, from the next chunk on: the number of its chunks; or it is aborted, a chunk is cut (9), a sum differs (10). The last number is
-- the place afterwards.

pub data Whole : Type 0 where
  complete : (count q : ℕ) → Whole
  aborted : (q : ℕ) → Whole
  cut_off : ChunkCut → (q : ℕ) → Whole
  wrong_sum : (q : ℕ) → Whole

-- one chunk more, before the rest
unfoldable pub also : Whole → Whole
also (complete count q) = complete (suc count) q
also (aborted q) = aborted q
also (cut_off c q) = cut_off c q
also (wrong_sum q) = wrong_sum q

-- each chunk is tested before the next: header, data, CRC
unfoldable pub whole_turn : List ℕ → ℕ → Mark → Turn Whole
whole_turn image p (chunk n) =
    cond (fits image p n)
    (cond (matches image p n) (on (p + 9 + n) also) (stop (wrong_sum (p + 9 + n))))
    (stop (cut_off (body_cut image p n) (p + 9 + n)))
whole_turn image p close = stop (complete 0 (p + 1))
whole_turn image p (cut k) = stop (cut_off (header_cut p k) (length image))
whole_turn image p other = stop (aborted p)

unfoldable pub whole : List ℕ → ℕ → Whole
whole image p = around (λ q. whole_turn image q (standing image q)) (aborted 0) (length image) p

-- the data of `count` chunks that stand back to back from p on
unfoldable pub chunks_at : List ℕ → (p count : ℕ) → List (List ℕ)
chunks_at image p zero = []
chunks_at image p (suc count) = let n = number 4 image (p + 1) in chunk_data image p n ∷ chunks_at image (p + 9 + n) count

-- ---- after an entry: `Pass`, it is still current, and what is left of it is skipped before a 01 is looked for; or `Seek`, none is current.
-- This is the one place that says so.

unfoldable pub after_cut : CutPart → ℕ → Next
after_cut Header q = Seek q
after_cut Data q = Pass q
after_cut Crc q = Pass q

unfoldable pub left : Whole → Next
left (complete count q) = Pass q
left (aborted q) = Pass q
left (cut_off c q) = after_cut c.part q
left (wrong_sum q) = Pass q

-- ---- the next entry: nine bytes, the first a 01, and an id that is not below the file's

pub data Lead : Type 0 where
  entry : (id : ℕ) → Lead
  none : Lead

unfoldable pub lead : (file : ℕ) → List ℕ → ℕ → Lead
lead file image p =
    cond (leb (p + 9) (length image) && eqb (get_or image p 0) 1 && leb file (number 8 image (p + 1)))
    (entry (number 8 image (p + 1)))
    none

-- ---- opening: v, where v bytes of version info stand behind the five header bytes; or a refusal

pub data Opened : Type 0 where
  opens : (v : ℕ) → Opened
  refuses : (number' : ℕ) → Opened

unfoldable pub opened : List ℕ → Opened
opened image =
    cond (leb 5 (length image))
    (cond (eqb (get_or image 0 0) 0x6F && eqb (get_or image 1 0) 0x6B && eqb (get_or image 2 0) 0x77)
    (cond (eqb (get_or image 3 0) 0)
    (cond (leb (5 + get_or image 4 0) (length image)) (opens (get_or image 4 0)) (refuses 1))
    (refuses 3))
    (refuses 2))
    (refuses 1)
