-- A call for an entry that finds one, and a call for all its chunks, lead a reader forward: of any state, and any image.
use Rattle.std.proofs.Common.{◌≡◌, refl, ap, ◌∙◌, ℕ, ◌+◌, ◌-◌, ◌≤◌, ◌<◌, Bool, true, false, cond, List, [], ◌∷◌, length, arith, Some, Result, Ok}
use Rattle.entry.specs.declared.Refusal.{Refusal}
use Rattle.reading.specs.Reading.{Lead, entry, none, lead, Skipped, at, broken, skip, whole}
use Rattle.reading.specs.ReadingLaws.{lead-says}
use Rattle.reading.specs.WholeReading.{after}
use Rattle.reading.specs.WholeReadingLaws.{skip-from, whole-after}
use Rattle.segment_reader.specs.State.{fit, leaving, start_of, Start, Unfit, Over, Idle, Current}
use Rattle.segment_reader.specs.StateLaws.{fit-owes}
use Rattle.segment_reader.specs.Calls.{told, cut_short, refusal, Step, step, entry_met, entry_past, entry_from, read_entry, whole_from, read_all_chunks}
use Rattle.segment_reader.specs.Promises.{ReadEntryAllows, ReadAllChunksAllows}
use Rattle.segment_reader.specs.declared.Moment.{Moment}
use Rattle.segment_reader.specs.declared.Moment.TheVariants.{Between, InEntry, InChunk, Ended}
use Rattle.segment_reader.specs.declared.SegmentReader.{SegmentReader}
use Rattle.segment_reader.specs.declared.WholeEntry.{WholeEntry}
use Rattle.segment_reader.proofs.Entered.{left-place}

-- what an open chunk is left for lies no nearer than the place
current-ahead : (r : SegmentReader) (size id p : ℕ) → start_of r size ≡ Current id p → r.place ≤ p
unfolding start_of leaving
current-ahead r size id p e = go (fit r size) r.moment refl refl e
  where
    go : (b : Bool) (m : Moment) → fit r size ≡ b → r.moment ≡ m → cond b (leaving m r.place) Unfit ≡ Current id p → r.place ≤ p
    go true Between f m e = let z : ◌≡◌ {A = ℕ} 0 1 = cc in absurd (omega arith)
    go true (InEntry i) f m e = let z : r.place ≡ p = cc in omega arith
    go true (InChunk i mark n owed) f m e = let z : mark + 9 + n ≡ p = cc in let w = fit-owes r size i mark n owed f m in let b = w.behind in omega arith
    go true Ended f m e = let z : ◌≡◌ {A = ℕ} 0 1 = cc in absurd (omega arith)
    go false m f n e = let z : ◌≡◌ {A = ℕ} 0 1 = cc in absurd (omega arith)

module _ (image : List ℕ) (r q : SegmentReader) (id : ℕ) where
  abbrev Moves : Type 0
  Moves = (r.place < q.place) × (r.place < length image)

  met-ahead : (p : ℕ) → r.place ≤ p → (l : Lead) → lead r.file_id image p ≡ l → step q (told (1 ∷ id ∷ [])) ≡ entry_met r p l → Moves
  unfolding entry_met
  met-ahead p h (entry i) e g = let s = lead-says r.file_id image p e in let z : q.place ≡ p + 9 = ap (λ (k : Step). k.reader.place) g in (omega arith, omega arith)
  met-ahead p h none e g = let z : told (1 ∷ id ∷ []) ≡ told (0 ∷ []) = ap (λ (k : Step). k.reply) g in let y : ◌≡◌ {A = ℕ} 1 0 = cc in absurd (omega arith)

  past-ahead : (i p : ℕ) → r.place ≤ p → (s : Skipped) → skip image p ≡ s → step q (told (1 ∷ id ∷ [])) ≡ entry_past r image i s → Moves
  unfolding entry_past
  past-ahead i p h (at t) e g = let z : p ≤ t = rw e at (skip-from image p) in met-ahead t (omega arith) (lead r.file_id image t) refl g
  past-ahead i p h (broken c) e g = let z : told (1 ∷ id ∷ []) ≡ cut_short c = ap (λ (k : Step). k.reply) g in let y : ◌≡◌ {A = ℕ} 0 1 = cc in absurd (omega arith)

  pub entry-ahead : ReadEntryAllows r image (Ok (Some id)) q → Moves
  unfolding read_entry entry_from
  entry-ahead g = go (start_of r (length image)) refl g
    where
      go : (s : Start) → start_of r (length image) ≡ s → step q (told (1 ∷ id ∷ [])) ≡ entry_from r image s → Moves
      go Unfit e g = let z : told (1 ∷ id ∷ []) ≡ refusal 12 = ap (λ (k : Step). k.reply) g in let y : ◌≡◌ {A = ℕ} 0 1 = cc in absurd (omega arith)
      go Over e g = let z : told (1 ∷ id ∷ []) ≡ told (0 ∷ []) = ap (λ (k : Step). k.reply) g in let y : ◌≡◌ {A = ℕ} 1 0 = cc in absurd (omega arith)
      go Idle e g = met-ahead r.place (omega arith) (lead r.file_id image r.place) refl g
      go (Current i p) e g = past-ahead i p (current-ahead r (length image) i p e) (skip image p) refl g

pub whole-ahead : (image : List ℕ) (q t : SegmentReader) (b : Result WholeEntry Refusal) → ReadAllChunksAllows q image b t → q.place ≤ t.place
unfolding read_all_chunks whole_from
whole-ahead image q t b g = go (start_of q (length image)) refl (ap (λ (k : Step). k.reader) g)
  where
    go : (s : Start) → start_of q (length image) ≡ s → t ≡ (whole_from q image s).reader → q.place ≤ t.place
    go Unfit e h = rw h (omega arith)
    go Over e h = rw h (omega arith)
    go Idle e h = rw h (omega arith)
    go (Current i p) e h =
        let a = current-ahead q (length image) i p e in
        let z : t.place ≡ after (whole image p) = ap (λ (k : SegmentReader). k.place) h ∙ left-place q i (whole image p) in
        let w = whole-after image p in
        omega arith

-- one item more: the measure of what is left
pub next-smaller : (image : List ℕ) (r q t : SegmentReader) (id : ℕ) (b : Result WholeEntry Refusal) → ReadEntryAllows r image (Ok (Some id)) q
    → ReadAllChunksAllows q image b t → length image - t.place < length image - r.place
next-smaller image r q t id b g h = let a = entry-ahead image r q id g in let w = whole-ahead image q t b h in omega arith
