-- What the round trip speaks of: how a reading finds them, and which entries a reading yields, with the data that the
-- image holds. The theorems are in `RoundTrip` and `Soundness`.
use Rattle.std.specs.Prelude.{◌≡◌, ℕ, ◌+◌, ◌-◌, ◌≤◌, length}
use mathlib.Core.List.{List, [], ◌∷◌, ◌++◌, flat_map}
use Rattle.lists.specs.Stream.{part}
use Rattle.entry.specs.Format.{Entry, entry, segment}
use Rattle.entry.specs.Writable.{Writable}
use Rattle.reading.specs.Reading.{Whole, complete, aborted, cut_off, wrong_sum, chunks_at, left}
use Rattle.reading.specs.WholeReading.{Found, Reading, after, onward, read, read_segment}

-- ---- entries as a reading finds them, where the first stands at p and each behind the one before it: complete

abbrev pub as_complete : (p : ℕ) → Entry → Found
as_complete p e = record { place = p; id = e.id; contents = complete (length e.chunks) (p + length (entry e)) }

unfoldable pub as_found : (p : ℕ) → List Entry → List Found
as_found p [] = []
as_found p (e ∷ es) = as_complete p e ∷ as_found (p + length (entry e)) es

-- a reading that finds these first
abbrev pub with_entries : List Found → Reading → Reading
with_entries fs r = record { entries = fs ++ r.entries; valid_until = r.valid_until }

-- where a 01 is looked for after these entries, the last of which ends at q: there, or where any complete entry lets the reading go on
abbrev pub behind : (image : List ℕ) → List Entry → (q : ℕ) → ℕ
behind image [] q = q
behind image (e ∷ es) q = onward image (left (complete 0 q))

-- ---- what a reading yields: its complete entries, each with its id and the data of its chunks as they stand in the image

abbrev pub entry_at : (image : List ℕ) → Found → (count : ℕ) → Entry
entry_at image f count = record { id = f.id; chunks = chunks_at image (f.place + 9) count }

unfoldable pub yields : (image : List ℕ) → Found → Whole → List Entry
yields image f (complete count q) = entry_at image f count ∷ []
yields image f (aborted q) = []
yields image f (cut_off c q) = []
yields image f (wrong_sum q) = []

unfoldable pub yielded : (image : List ℕ) → List Found → List Entry
yielded image fs = flat_map (λ f. yields image f f.contents) fs

-- ---- reading back: the entries es are found complete, back to back from behind the header, and then what `later` finds; and the data of their chunks,
-- as the image holds it, is theirs

module _ (file : ℕ) (image info : List ℕ) (es : List Entry) where
  abbrev pub ReadsFirst : (later : Reading) → Type 0
  ReadsFirst later =
      (read_segment file image ≡ read (with_entries (as_found (5 + length info) es) later)) × (yielded image (as_found (5 + length info) es) ≡ es)

  -- nothing else is found, and the valid bytes end with the segment
  abbrev pub ReadsBack : Type 0
  ReadsBack =
      (read_segment file image ≡ read (record { entries = as_found (5 + length info) es; valid_until = length (segment info es) }))
      × (yielded image (as_found (5 + length info) es) ≡ es)

-- ---- soundness: an entry that was found complete and left the place q lies inside the image, from its 01 to behind its 03 it is the bytes of its id
-- and of the chunks that stand there, and it could have been written

pub record Stands (file : ℕ) (image : List ℕ) (place : ℕ) (e : Entry) (q : ℕ) : Type 0 where
  pub bytes_are : part image place (q - place) ≡ entry e
  pub ends : q ≡ place + length (entry e)
  pub inside : q ≤ length image
  pub writable : Writable file e

abbrev pub Sound : (file : ℕ) (image : List ℕ) → Found → Whole → Type 0
Sound file image f (complete count q) = Stands file image f.place (entry_at image f count) q
Sound file image f (aborted q) = Unit {0}
Sound file image f (cut_off c q) = Unit {0}
Sound file image f (wrong_sum q) = Unit {0}

-- ---- order: each entry begins behind the one before it, and `to` is behind the last

abbrev pub InOrder : (from : ℕ) → List Found → (to : ℕ) → Type 0
InOrder from [] to = from ≤ to
InOrder from (f ∷ fs) to = (from ≤ f.place) × (f.place + 9 ≤ after f.contents) × InOrder (after f.contents) fs to
