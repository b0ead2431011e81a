-- A whole reading (document 01, "The reader"): the next entry is asked for and read whole, again and again, until the reading has ended; after 9, 10
-- and an aborted entry it goes on. What it finds is a function of the image and the file id. The laws are in `WholeReadingLaws`.
use Rattle.std.specs.Prelude.{List, [], ◌∷◌, ℕ, ◌+◌, length}
use Rattle.lists.specs.Walk.{Turn, stop, on, around}
use Rattle.reading.specs.Reading.{Skipped, at, broken, skip, Whole, complete, aborted, cut_off, wrong_sum, whole, left}
use Rattle.reading.specs.Reading.{Lead, entry, none, lead, Opened, opens, refuses, opened}
use Rattle.reading.specs.declared.walks.Next.{Next}
use Rattle.reading.specs.declared.walks.Next.TheVariants.{Seek, Pass}

-- ---- an entry that was found: the place of its 01, its id, and what reading it whole gives; and all of them, with where the valid bytes end

pub record Found : Type 0 where
  pub place : ℕ
  pub id : ℕ
  pub contents : Whole

pub record Reading : Type 0 where
  pub entries : List Found
  pub valid_until : ℕ

-- the place after an entry
unfoldable pub after : Whole → ℕ
after (complete count q) = q
after (aborted q) = q
after (cut_off c q) = q
after (wrong_sum q) = q

-- ---- where a 01 is looked for after an entry: behind what is skipped, if it is still current. A chunk header that is cut off there answers 9 and
-- leaves the place at the image's end.

unfoldable pub landed : List ℕ → Skipped → ℕ
landed image (at q) = q
landed image (broken c) = length image

unfoldable pub onward : List ℕ → Next → ℕ
onward image (Seek q) = q
onward image (Pass q) = landed image (skip image q)

-- ---- the reading from a place where a 01 is looked for

abbrev pub ended : ℕ → Reading
ended p = record { entries = []; valid_until = p }

unfoldable pub with_entry : Found → Reading → Reading
with_entry f r = record { entries = f ∷ r.entries; valid_until = r.valid_until }

abbrev pub found_at : List ℕ → (p id : ℕ) → Found
found_at image p id = record { place = p; id = id; contents = whole image (p + 9) }

unfoldable pub read_turn : List ℕ → ℕ → Lead → Turn Reading
read_turn image p (entry id) = on (onward image (left (whole image (p + 9)))) (with_entry (found_at image p id))
read_turn image p none = stop (ended p)

unfoldable pub read_from : (file : ℕ) → List ℕ → ℕ → Reading
read_from file image p = around (λ q. read_turn image q (lead file image q)) (ended 0) (length image) p

-- ---- the reading of an image: from behind its header on; or the refusal of its opening

pub data Outcome : Type 0 where
  read : Reading → Outcome
  refused : (number' : ℕ) → Outcome

unfoldable pub read_opened : (file : ℕ) → List ℕ → Opened → Outcome
read_opened file image (opens v) = read (read_from file image (5 + v))
read_opened file image (refuses n) = refused n

unfoldable pub read_segment : (file : ℕ) → List ℕ → Outcome
read_segment file image = read_opened file image (opened image)
