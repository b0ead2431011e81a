-- An ended reader answers ended for ever, and nothing moves. The idea: in that moment every call keeps the state.
use Rattle.std.specs.Prelude.{Bool, ℕ, length}
use Rattle.std.proofs.Math.Bool.{true, false, cond}
use mathlib.Core.List.{List, [], ◌∷◌}
use Rattle.std.proofs.Math.Path.{◌≡◌, refl, ap}
use Rattle.std.proofs.Common.{arith}
use Rattle.lists.specs.NumbersLaws.{Bytes}
use Rattle.reading.specs.Reading.{Skipped, at, broken, Lead, entry, none}
use Rattle.segment_reader.specs.State.{fit, leaving, start_of, holding, open_of, Start, Unfit, Over, Idle, Current, Refused}
use Rattle.segment_reader.specs.Calls.{Reply, told, refusal, step, new, entry_met, entry_past, entry_from, read_entry, chunk_from, read_chunk, read_in, read, skip_in, skip_remaining, whole_from, read_all_chunks, Call, next_entry, next_chunk, crc_check, skip_rest, whole_entry, data_read, read_by, after}
use Rattle.segment_reader.specs.LedLaws.{Led, led-fits, Kind, call-led, led_by, opened-leads}
use Rattle.segment_reader.specs.declared.Moment.{Moment}
use Rattle.segment_reader.specs.declared.Moment.TheVariants.{Between, InEntry, InChunk, Ended}
use Rattle.segment_reader.specs.declared.SegmentReader.{SegmentReader}

-- the answer of a call for an entry where there is none
abbrev pub ended : Reply
ended = told (0 ∷ [])

-- ---- any ended reader that is fit, garbage included

module _ (r : SegmentReader) (image : List ℕ) (fits : fit r (length image) ≡ true) (over : r.moment ≡ Ended) where
  starts-over : start_of r (length image) ≡ Over
  unfolding start_of leaving
  starts-over = rw (fits, over)

  holds-none : open_of r (length image) ≡ Refused 6
  unfolding open_of holding
  holds-none = rw (fits, over)

  pub ended-entry : read_entry r image ≡ step r ended
  unfolding read_entry entry_from
  ended-entry = ap (entry_from r image) starts-over

  ended-keeps : (c : Call) → (read_by c r image).reader ≡ r
  unfolding read_by read_entry entry_from read_chunk chunk_from read_all_chunks whole_from read read_in skip_remaining skip_in
  ended-keeps next_entry = rw starts-over
  ended-keeps next_chunk = rw starts-over
  ended-keeps crc_check = refl
  ended-keeps skip_rest = rw holds-none
  ended-keeps whole_entry = rw starts-over
  ended-keeps (data_read asked) = rw holds-none

  pub ended-for-ever : (calls : List Call) → (after calls r image ≡ r) × (read_entry (after calls r image) image ≡ step r ended)
  unfolding after
  ended-for-ever [] = (refl, ended-entry)
  ended-for-ever (c ∷ cs) = rw (ended-keeps c) (ended-for-ever cs)

-- ---- a reader that has answered ended is in that moment

module _ (r : SegmentReader) (image : List ℕ) where
  clash : {A : Type 0} {n : ℕ} → refusal n ≡ ended → A
  clash e = let z : ◌≡◌ {A = ℕ} 0 1 = cc in absurd (omega arith)

  met-ends : (p : ℕ) (l : Lead) → (entry_met r p l).reply ≡ ended → (entry_met r p l).reader.moment ≡ Ended
  unfolding entry_met
  met-ends p (entry id) e = let z : ◌≡◌ {A = ℕ} 0 1 = cc in absurd (omega arith)
  met-ends p none e = refl

  past-ends : (id : ℕ) (s : Skipped) → (entry_past r image id s).reply ≡ ended → (entry_past r image id s).reader.moment ≡ Ended
  unfolding entry_past
  past-ends id (at p) e = met-ends p _ e
  past-ends id (broken c) e = let z : ◌≡◌ {A = ℕ} 0 1 = cc in absurd (omega arith)

  over-ends : start_of r (length image) ≡ Over → r.moment ≡ Ended
  unfolding start_of leaving
  over-ends e = go (fit r (length image)) r.moment refl e
    where
      go : (b : Bool) (m : Moment) → r.moment ≡ m → cond b (leaving m r.place) Unfit ≡ Over → r.moment ≡ Ended
      go true Between q e = cc
      go true (InEntry id) q e = cc
      go true (InChunk id mark n owed) q e = cc
      go true Ended q e = q
      go false m q e = cc

  entry-ends : (read_entry r image).reply ≡ ended → (read_entry r image).reader.moment ≡ Ended
  unfolding read_entry entry_from
  entry-ends e = go (start_of r (length image)) refl e
    where
      go : (s : Start) → start_of r (length image) ≡ s → (entry_from r image s).reply ≡ ended → (entry_from r image s).reader.moment ≡ Ended
      go Unfit q e = clash e
      go Over q e = over-ends q
      go Idle q e = met-ends r.place _ e
      go (Current id p) q e = past-ends id _ e

-- ---- a reader that an opening leads to, once a call for an entry has answered ended

pub record Ends (image : List ℕ) (e : SegmentReader) (later : List Call) : Type 0 where
  pub keeps : after later e image ≡ e
  pub answers : read_entry e image ≡ step e ended
  pub place : e.place ≡ e.valid_until

module _ (file : ℕ) (image : List ℕ) (bytes : Bytes image) (opening : (new file image).reply ≡ told []) where
  pub led-ends : (before later : List Call) → (read_entry (led_by file image before) image).reply ≡ ended
      → Ends image (read_entry (led_by file image before) image).reader later
  unfolding read_by
  led-ends before later q =
      let r : SegmentReader = led_by file image before in
      let e : SegmentReader = (read_entry r image).reader in
      let l : Led image e = call-led image bytes r (opened-leads file image bytes opening before) next_entry in
      let m : e.moment ≡ Ended = entry-ends r image q in
      let k : Kind image e.place e.valid_until Ended = rw m at l.kind in
      let f = ended-for-ever e image (led-fits image e l) m later in
      record { keeps = f.0; answers = ended-entry e image (led-fits image e l) m; place = k }
