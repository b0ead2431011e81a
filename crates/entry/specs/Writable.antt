-- An entry that may be written into a segment and read back: an id of 64 bits that is not below the segment's, and chunks whose lengths have 32 bits.
-- Nothing else is asked.
use Rattle.std.specs.Prelude.{ℕ, ◌^◌, ◌≤◌, ◌<◌, List, length}
use Rattle.lists.specs.All.{All}
use Rattle.entry.specs.Format.{Entry}

abbrev pub Lengths : List (List ℕ) → Type 0
Lengths chunks = All (λ d. length d < 2 ^ 32) chunks

pub record Writable (file : ℕ) (e : Entry) : Type 0 where
  pub not_below : file ≤ e.id
  pub id_fits : e.id < 2 ^ 64
  pub chunks_fit : Lengths e.chunks
