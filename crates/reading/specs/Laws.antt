-- What `laws` promises of every image: the round trip from entries to bytes and back, and that what is read stands there.
use Rattle.std.specs.Prelude.{ℕ, ◌≡◌, List, ◌++◌, length, replicate}
use Rattle.entry.specs.Format.{Entry, segment}
use Rattle.lists.specs.NumbersLaws.{Bytes}
use Rattle.entry.specs.Writable.{Writable}
use Rattle.lists.specs.All.{All}
use Rattle.reading.specs.WholeReading.{Reading, read_from, read, read_segment}
use Rattle.reading.specs.Yielded.{behind, ReadsFirst, ReadsBack, Sound}

-- any writable entries, read from their segment: exactly these, in order, and their data
abbrev pub RoundTrip : Type 0
RoundTrip = (file : ℕ) (info : List ℕ) (es : List Entry) → All (Writable file) es → ReadsBack file (segment info es) info es

-- with zeros behind too
abbrev pub RoundTripBeforeZeros : Type 0
RoundTripBeforeZeros =
    (file : ℕ) (info : List ℕ) (es : List Entry) → All (Writable file) es → (k : ℕ) → ReadsBack file (segment info es ++ replicate k 0) info es

-- and first these, whatever stands behind
abbrev pub EntriesComeFirst : Type 0
EntriesComeFirst =
    (file : ℕ) (info : List ℕ) (es : List Entry) → All (Writable file) es → (tail : List ℕ)
    → ReadsFirst file (segment info es ++ tail) info es
    (read_from file (segment info es ++ tail) (behind (segment info es ++ tail) es (length (segment info es))))

-- an entry that is found complete is there, byte for byte as the format writes it
abbrev pub WhatIsReadIsThere : Type 0
WhatIsReadIsThere =
    (image : List ℕ) → Bytes image → (file : ℕ) (r : Reading) → read_segment file image ≡ read r → All (λ f. Sound file image f f.contents) r.entries
