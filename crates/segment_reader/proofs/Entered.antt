-- What a turn of the two calls says of the reading, from their promises alone: each answer is told apart, and gives the place where the next 01 is looked for.
use mathlib.Core.List.{List}
use mathlib.Core.Path.{◌≡◌, refl, sym, ap, ◌∙◌}
use Prim.Native.Nat.{ℕ, ◌+◌, ◌≤◌, ◌<◌}
use native.Mathlib.Omega.{arith}
use lib.ListN.{length, get_or}
use mir.Syntax.{w8}
use mir.Val.{Fits}
use Rattle.lists.specs.NumbersLaws.{Bytes}
use Rattle.reading.specs.Reading.{Skipped, at, broken, skip, Whole, complete, aborted, cut_off, wrong_sum, whole, after_cut, left, Lead, entry, none, lead}
use Rattle.reading.specs.ReadingLaws.{nothing-stands, lead-says, skip-other}
use mathlib.Core.Bool.{Bool, true, false}
use Rattle.segment_reader.specs.State.{leaving, start_of, Start, Idle, Current}
use Rattle.segment_reader.specs.Calls.{Reply, told, cut_short, refusal, Step, step, placed, resting, entry_met, entry_past, entry_from, read_entry, whole_reply, whole_at, whole_from, read_all_chunks, next_entry, whole_entry, read_by}
use Rattle.segment_reader.specs.Promises.{reply_of, entry_values, whole_values, ReadEntryAllows, ReadAllChunksAllows}
use Rattle.segment_reader.specs.PromisesLaws.{never-told, whole-one}
use Rattle.segment_reader.specs.LedLaws.{Led, led-fits, call-led}
use Rattle.reading.specs.WholeReading.{after, landed, onward}
use Rattle.segment_reader.specs.Driver.{verdict_read}
use Rattle.reading.specs.WholeReadingLaws.{skip-from, pass-from, whole-after}
use Rattle.segment_reader.specs.Turns.{verdict_by, Calm, Ready, next_by, where_to, FoundSays, PassedSays, OverSays}
use Rattle.segment_reader.specs.declared.Moment.{Moment}
use Rattle.segment_reader.specs.declared.Moment.TheVariants.{Between, InEntry, InChunk, Ended}
use Rattle.segment_reader.specs.declared.SegmentReader.{SegmentReader}
use Rattle.segment_reader.specs.declared.WholeEntry.{WholeEntry}
use Rattle.segment_reader.specs.declared.WholeEntry.TheVariants.{Whole as IsWhole, Aborted}
use Rattle.segment_reader.specs.declared.survey.Verdict.{Verdict}
use Rattle.entry.specs.declared.Refusal.{Refusal}
use Rattle.entry.specs.declared.Refusal.TheVariants.{Cut, WrongSum}
use Rattle.std.proofs.Common.{Option, Some, None, Result, Ok, Err}
use Rattle.entry.specs.declared.CutPart.{CutPart}
use Rattle.entry.specs.declared.CutPart.TheVariants.{Header, Data, Crc}
use Rattle.reading.specs.declared.walks.Next.{Next}
use Rattle.reading.specs.declared.walks.Next.TheVariants.{Seek, Pass}

-- ---- a reader after an entry: where it looks for a 01, and its place

rest-where : (image : List ℕ) (r : SegmentReader) (id : ℕ) (x : Next) → where_to image (resting r id x) ≡ onward image x
unfolding resting next_by
rest-where image r id (Seek q) = refl
rest-where image r id (Pass q) = refl

rest-calm : (r : SegmentReader) (id : ℕ) (x : Next) → Calm (resting r id x).moment
unfolding resting
rest-calm r id (Seek q) = tt
rest-calm r id (Pass q) = tt

rest-file : (r : SegmentReader) (id : ℕ) (x : Next) → (resting r id x).file_id ≡ r.file_id
unfolding resting
rest-file r id (Seek q) = refl
rest-file r id (Pass q) = refl

cut-place : (r : SegmentReader) (id : ℕ) (x : CutPart) (q : ℕ) → (resting r id (after_cut x q)).place ≡ q
unfolding resting after_cut
cut-place r id Header q = refl
cut-place r id Data q = refl
cut-place r id Crc q = refl

pub left-place : (r : SegmentReader) (id : ℕ) (w : Whole) → (resting r id (left w)).place ≡ after w
unfolding resting left after
left-place r id (complete k q) = refl
left-place r id (aborted q) = refl
left-place r id (cut_off c q) = cut-place r id c.part q
left-place r id (wrong_sum q) = refl

-- at the image's end nothing is passed
end-where : (image : List ℕ) (x : CutPart) → onward image (after_cut x (length image)) ≡ length image
unfolding onward after_cut landed
end-where image Header = refl
end-where image Data = rw (skip-other image (length image) (nothing-stands image (length image) (omega arith)))
end-where image Crc = rw (skip-other image (length image) (nothing-stands image (length image) (omega arith)))

-- ---- the verdict in a whole entry's answer

abbrev result_of : (from : ℕ) → Whole → Result WholeEntry Refusal
result_of from (complete k q) = Ok (IsWhole from k)
result_of from (aborted q) = Ok Aborted
result_of from (cut_off c q) = Err (Cut c)
result_of from (wrong_sum q) = Err WrongSum

result-told : (from : ℕ) (w : Whole) → reply_of whole_values (result_of from w) ≡ whole_reply from w
unfolding whole_reply
result-told from (complete k q) = refl
result-told from (aborted q) = refl
result-told from (cut_off c q) = refl
result-told from (wrong_sum q) = refl

result-verdict : (from : ℕ) (w : Whole) → verdict_by (result_of from w) ≡ verdict_read w
unfolding verdict_read
result-verdict from (complete k q) = refl
result-verdict from (aborted q) = refl
result-verdict from (cut_off c q) = refl
result-verdict from (wrong_sum q) = refl

verdict-said : (from : ℕ) (w : Whole) (a : Result WholeEntry Refusal) → reply_of whole_values a ≡ whole_reply from w → verdict_by a ≡ verdict_read w
verdict-said from w a e = ap verdict_by (whole-one a (result_of from w) (e ∙ sym (result-told from w))) ∙ result-verdict from w

-- ---- a call for an entry, by its answer

pub record Enters (image : List ℕ) (r q : SegmentReader) (id : ℕ) : Type 0 where
  pub begins : lead r.file_id image (where_to image r) ≡ entry id
  pub stands : q ≡ placed r (where_to image r + 9) (where_to image r) (InEntry id)

abbrev pub EntrySays : List ℕ → SegmentReader → SegmentReader → Result (Option ℕ) Refusal → Type 0
EntrySays image r q (Ok (Some id)) = Enters image r q id
EntrySays image r q (Ok None) = OverSays image r q
EntrySays image r q (Err why) = PassedSays image r q

-- no entry is below the reader's place
ahead : (image : List ℕ) (r : SegmentReader) → r.place ≤ where_to image r
unfolding next_by onward
ahead image r = go r.moment refl
  where
    go : (m : Moment) → r.moment ≡ m → r.place ≤ onward image (next_by m r.place)
    go Between e = omega arith
    go (InEntry id) e = pass-from image r.place
    go (InChunk id mark n owed) e = omega arith
    go Ended e = omega arith

abbrev has_number : Reply → Bool
has_number (told values) = false
has_number (cut_short c) = false
has_number (refusal n) = true

module _ (image : List ℕ) (bytes : Bytes image) (r : SegmentReader) (ready : Ready image r) where
  met-says : (p : ℕ) → where_to image r ≡ p → (l : Lead) → lead r.file_id image p ≡ l → (q : SegmentReader) (a : Result (Option ℕ) Refusal)
      → q ≡ (entry_met r p l).reader → reply_of entry_values a ≡ (entry_met r p l).reply → EntrySays image r q a
  unfolding entry_met
  met-says p w (entry id) e q (Ok (Some i)) g h = let z : id ≡ i = cc in record { begins = rw w (e ∙ ap entry z); stands = rw (w, ← z) g }
  met-says p w (entry id) e q (Ok None) g h = let z : ◌≡◌ {A = ℕ} 0 1 = cc in absurd (omega arith)
  met-says p w (entry id) e q (Err why) g h = absurd (never-told _ why (sym h))
  met-says p w none e q (Ok (Some i)) g h = let z : ◌≡◌ {A = ℕ} 0 1 = cc in absurd (omega arith)
  met-says p w none e q (Ok None) g h = record { ends = rw w e; valid = ap (λ (s : SegmentReader). s.valid_until) g ∙ sym w }
  met-says p w none e q (Err why) g h = absurd (never-told _ why (sym h))

  -- the state after a call is still one that an opening leads to
  led_on : (q : SegmentReader) → q ≡ (read_entry r image).reader → Led image q
  unfolding read_by
  led_on q e = rw e (call-led image bytes r ready.led next_entry)

  past-says : (id : ℕ) → r.moment ≡ InEntry id → (s : Skipped) → skip image r.place ≡ s → (q : SegmentReader) (a : Result (Option ℕ) Refusal)
      → Led image q → q ≡ (entry_past r image id s).reader → reply_of entry_values a ≡ (entry_past r image id s).reply → EntrySays image r q a
  unfolding entry_past next_by onward landed left
  past-says id m (at p) e q a l g h = met-says p (rw (m, e)) (lead r.file_id image p) refl q a g h
  past-says id m (broken c) e q (Err why) l k h =
      let here : where_to image r ≡ length image = rw (m, e) in
      let i : r.place < length image = rw e at (skip-from image r.place) in
      record {
        stops = ap (λ (s : SegmentReader). s.place) k ∙ cut-place r id c.part (length image);
        goes_on = ap (where_to image) k ∙ rest-where image r id (after_cut c.part (length image)) ∙ end-where image c.part ∙ sym here;
        ready = record { led = l; calm = rw k (rest-calm r id (after_cut c.part (length image))) };
        same_file = rw k (rest-file r id (after_cut c.part (length image)));
        forward = rw (k, cut-place r id c.part (length image)) i;
        inside = i;
      }
  past-says id m (broken c) e q (Ok x) l g h = let z : ◌≡◌ {A = ℕ} 0 1 = cc in absurd (omega arith)

  starts : (m : Moment) → r.moment ≡ m → start_of r (length image) ≡ leaving m r.place
  unfolding start_of
  starts m e = rw (led-fits image r ready.led, e)

  pub entered : (q : SegmentReader) (a : Result (Option ℕ) Refusal) → step q (reply_of entry_values a) ≡ read_entry r image → EntrySays image r q a
  unfolding read_entry entry_from leaving next_by onward
  entered q a h = go r.moment refl
    where
      go : (m : Moment) → r.moment ≡ m → EntrySays image r q a
      go Between e =
          let g : step q (reply_of entry_values a) ≡ entry_from r image Idle = h ∙ ap (entry_from r image) (starts Between e) in
          met-says r.place (rw e) (lead r.file_id image r.place) refl q a (ap (λ (s : Step). s.reader) g) (ap (λ (s : Step). s.reply) g)
      go (InEntry id) e =
          let g : step q (reply_of entry_values a) ≡ entry_from r image (Current id r.place) = h ∙ ap (entry_from r image) (starts (InEntry id) e) in
          past-says id e (skip image r.place) refl q a (led_on q (ap (λ (s : Step). s.reader) h)) (ap (λ (s : Step). s.reader) g) (ap (λ (s : Step). s.reply) g)
      go (InChunk id mark n owed) e = absurd (rw e at ready.calm)
      go Ended e = absurd (rw e at ready.calm)

  -- ---- and then a call for all its chunks

  wholes : (q : SegmentReader) (id p : ℕ) → Led image q → q.moment ≡ InEntry id → q.place ≡ p → read_all_chunks q image ≡ whole_at q id p (whole image p)
  unfolding read_all_chunks whole_from start_of leaving
  wholes q id p l m e = rw (led-fits image q l, m, e)

  led-whole : (q : SegmentReader) → Led image q → (t : SegmentReader) → t ≡ (read_all_chunks q image).reader → Led image t
  unfolding read_by
  led-whole q l t e = rw e (call-led image bytes q l whole_entry)

  pub found : (q t : SegmentReader) (id : ℕ) (b : Result WholeEntry Refusal) (v : Verdict) → ReadEntryAllows r image (Ok (Some id)) q
      → ReadAllChunksAllows q image b t → v ≡ verdict_by b → FoundSays image r t (record { verdict = v; id = id; place = q.place })
  found q t id b v h g said =
      let e = entered q (Ok (Some id)) h in
      let p : ℕ = where_to image r in
      let w : Whole = whole image (p + 9) in
      let l : Led image q = led_on q (ap (λ (s : Step). s.reader) h) in
      let a : step t (reply_of whole_values b) ≡ whole_at q id (p + 9) w = g ∙ wholes q id (p + 9) l (ap (λ (s : SegmentReader). s.moment) e.stands) (ap (λ (s : SegmentReader). s.place) e.stands) in
      let k : t ≡ resting q id (left w) = ap (λ (s : Step). s.reader) a in
      let i = lead-says r.file_id image p e.begins in
      let n : t.place ≡ after w = ap (λ (s : SegmentReader). s.place) k ∙ left-place q id w in
      let o = whole-after image (p + 9) in
      let u = ahead image r in
      record {
        begins = e.begins;
        chunks = ap (λ (s : SegmentReader). s.place) e.stands;
        verdict = said ∙ verdict-said (p + 9) w b (ap (λ (s : Step). s.reply) a);
        goes_on = rw k (rest-where image q id (left w));
        ready = record { led = led-whole q l t (ap (λ (s : Step). s.reader) g); calm = rw k (rest-calm q id (left w)) };
        same_file = ap (λ (s : SegmentReader). s.file_id) k ∙ rest-file q id (left w) ∙ ap (λ (s : SegmentReader). s.file_id) e.stands;
        forward = omega arith;
        inside = omega arith;
      }

  -- ---- the other ways out of a turn

  pub over : (q : SegmentReader) → ReadEntryAllows r image (Ok None) q → OverSays image r q
  over q h = entered q (Ok None) h

  pub over_by : (q : SegmentReader) (a : Result (Option ℕ) Refusal) → ReadEntryAllows r image a q → a ≡ Ok None → OverSays image r q
  over_by q a h e = entered q (Ok None) (rw e at h)

  met-no-number : (p : ℕ) (l : Lead) → has_number (entry_met r p l).reply ≡ false
  unfolding entry_met
  met-no-number p (entry id) = refl
  met-no-number p none = refl

  past-no-number : (id : ℕ) (s : Skipped) → has_number (entry_past r image id s).reply ≡ false
  unfolding entry_past
  past-no-number id (at p) = met-no-number p (lead r.file_id image p)
  past-no-number id (broken c) = refl

  no-number : has_number (read_entry r image).reply ≡ false
  unfolding read_entry entry_from leaving
  no-number = go r.moment refl
    where
      go : (m : Moment) → r.moment ≡ m → has_number (read_entry r image).reply ≡ false
      go Between e = ap (λ (s : Start). has_number (entry_from r image s).reply) (starts Between e) ∙ met-no-number r.place (lead r.file_id image r.place)
      go (InEntry id) e = ap (λ (s : Start). has_number (entry_from r image s).reply) (starts (InEntry id) e) ∙ past-no-number id (skip image r.place)
      go (InChunk id mark n owed) e = absurd (rw e at ready.calm)
      go Ended e = absurd (rw e at ready.calm)

  -- a fit reader is not refused with a number: from such an answer anything follows; and there is none
  pub never_refused_at_all : (q : SegmentReader) (a : Result (Option ℕ) Refusal) (n : ℕ) → ReadEntryAllows r image a q → reply_of entry_values a ≡ refusal n → ⊥
  never_refused_at_all q a n h e = let z : true ≡ false = ap has_number (sym e ∙ ap (λ (s : Step). s.reply) h) ∙ no-number in cc

  pub never-refused : {A : Type 0} (q : SegmentReader) (a : Result (Option ℕ) Refusal) (n : ℕ) → ReadEntryAllows r image a q → reply_of entry_values a ≡ refusal n → A
  never-refused q a n h e = absurd (never_refused_at_all q a n h e)

  -- a header that is cut on the way
  pub passed : (q : SegmentReader) (why : Refusal) → ReadEntryAllows r image (Err why) q → PassedSays image r q
  passed q why h = entered q (Err why) h

-- what is known of a slice's elements
pub are-bytes : (s : List ℕ) → ((i : ℕ) → Fits w8 (get_or s i 0)) → Bytes s
are-bytes s h = λ i l. let z = h i in omega arith

-- behind a header that is cut nothing begins: the next call for an entry says that the reading is over
pub over-after : (image : List ℕ) → Bytes image → (r q t : SegmentReader) → Ready image r → (why : Refusal) (a : Result (Option ℕ) Refusal) → ReadEntryAllows r image (Err why) q
    → ReadEntryAllows q image a t → OverSays image r t
over-after image bytes r q t ready why a h g = go a (entered image bytes q s.ready t a g)
  where
    s : PassedSays image r q
    s = passed image bytes r ready q why h

    go : (a : Result (Option ℕ) Refusal) → EntrySays image q t a → OverSays image r t
    go (Ok (Some id)) e = let z = lead-says q.file_id image (where_to image q) e.begins in let w = ahead image q in let b = s.stops in absurd (omega arith)
    go (Ok None) e = record { ends = rw (s.same_file, s.goes_on) at e.ends; valid = e.valid ∙ s.goes_on }
    go (Err other) e = let b = s.stops in let i = e.inside in absurd (omega arith)
