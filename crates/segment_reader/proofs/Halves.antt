-- A step from its two halves, over plain variables.
use mathlib.Core.List.{List, [], ◌∷◌}
use mathlib.Core.Path.{◌≡◌, ap, ap₂, ◌∙◌}
use Prim.Native.Nat.{ℕ, ◌+◌, ◌-◌}
use Rattle.entry.specs.declared.ChunkCut.{ChunkCut}
use Rattle.reading.specs.Reading.{cut_off, left}
use Rattle.segment_reader.specs.State.{Chunk}
use Rattle.segment_reader.specs.Calls.{Reply, told, cut_short, step, moved, resting, handed, read_in}
use Rattle.segment_reader.specs.declared.Moment.TheVariants.{InChunk}
use Rattle.segment_reader.specs.declared.SegmentReader.{SegmentReader}

pub same_step : {q q' : SegmentReader} (a : Reply) → q ≡ q' → step q a ≡ step q' a
same_step a e = ap (λ (q : SegmentReader). step q a) e

pub both-step : {q q' : SegmentReader} {a a' : Reply} → q ≡ q' → a ≡ a' → step q a ≡ step q' a'
both-step e f = ap₂ step e f

-- a cut is told, and says what is current
pub cut_step : {q : SegmentReader} {a b : ChunkCut} (r : SegmentReader) (id size : ℕ) → q ≡ resting r id (left (cut_off a size)) → a ≡ b
    → step q (cut_short a) ≡ step (resting r id (left (cut_off b size))) (cut_short b)
cut_step r id size e h = both-step (e ∙ ap (λ (c : ChunkCut). resting r id (left (cut_off c size))) h) (ap cut_short h)

-- a read, as numbers
module _ (r : SegmentReader) (image : List ℕ) (asked id mark n owed k : ℕ) where
  pub read_step : {q : SegmentReader} → k ≡ handed r.place owed asked image → q ≡ moved r (r.place + k) (InChunk id mark n (owed - k))
      → step q (told (r.place ∷ k ∷ [])) ≡ read_in r image asked (Chunk id mark n owed)
  unfolding read_in
  read_step e f = same_step _ f ∙ ap (λ (j : ℕ). step (moved r (r.place + j) (InChunk id mark n (owed - j))) (told (r.place ∷ j ∷ []))) e
