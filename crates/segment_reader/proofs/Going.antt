-- The whole reading under way: what is answered for the segment is what was met and noted so far, and the reading from here on.
use mathlib.Core.Bool.{Bool, true, false, cond}
use mathlib.Core.List.{List, []}
use mathlib.Core.Path.{◌≡◌, refl, sym, ap, ◌∙◌}
use Prim.Native.Nat.{ℕ, ◌+◌, ◌≤◌, zero-le}
use native.Mathlib.Nat.{add-zero}
use native.Mathlib.Omega.{arith}
use lib.ListN.{length}
use lib.Dec.{leb}
use Rattle.entry.specs.Format.{largest_image}
use Rattle.reading.specs.Reading.{Whole, complete, aborted, cut_off, wrong_sum, whole, entry, none, lead, Opened, opens, refuses, opened}
use Rattle.segment_reader.specs.Calls.{Reply, told, refusal, Step, step, zeros, opened_with, new}
use Rattle.segment_reader.specs.Promises.{refused_by, NewAllows}
use Rattle.segment_reader.specs.PromisesLaws.{never-told}
use Rattle.segment_reader.specs.LedLaws.{opened-led}
use Rattle.reading.specs.WholeReading.{Found, with_entry, onward, found_at, read_from}
use Rattle.segment_reader.specs.Driver.{verdict_read, entry_read, noted, recorded, one_if, completes, surveyed, survey_of, read_opened, read_segment, ReadSegmentAllows}
use Rattle.reading.specs.WholeReadingLaws.{read-ended, read-entry}
use Rattle.segment_reader.specs.DriverLaws.{survey-on}
use Rattle.segment_reader.specs.Turns.{one_by, Ready, next_by, where_to, FoundSays, OverSays}
use Rattle.segment_reader.specs.declared.Moment.TheVariants.{Between}
use Rattle.segment_reader.specs.declared.SegmentReader.{SegmentReader}
use Rattle.segment_reader.specs.declared.survey.EntryRead.{EntryRead}
use Rattle.entry.specs.declared.Refusal.{Refusal}
use Rattle.std.proofs.Common.{None, Ok, Err}
use Rattle.lists.specs.NumbersLaws.{Bytes}
use Rattle.segment_reader.specs.Entries.{EntriesNext}
use Rattle.segment_reader.specs.declared.entries.Entries.{Entries}

pub record Going (file : ℕ) (image : List ℕ) (before list : List EntryRead) (r : SegmentReader) (met full : ℕ) : Type 0 where
  pub ready : Ready image r
  pub file-same : r.file_id ≡ file
  pub few : met ≤ r.place
  pub fewer : full ≤ met
  pub rest : read_segment file image before ≡ survey_of list met full (read_from file image (where_to image r))

-- ---- it begins where an opening leaves the reader

module _ (file : ℕ) (image : List ℕ) (list : List EntryRead) where
  opened-so : (o : Opened) → opened image ≡ o → (opened_with file image o).reply ≡ told []
      → read_opened file image list o ≡ survey_of list 0 0 (read_from file image (where_to image (opened_with file image o).reader))
  unfolding opened_with read_opened next_by onward
  opened-so (opens v) e h = refl
  opened-so (refuses n) e h = let z : ◌≡◌ {A = ℕ} 0 1 = cc in absurd (omega arith)

  begins-so : (new file image).reply ≡ told [] → read_segment file image list ≡ survey_of list 0 0 (read_from file image (where_to image (new file image).reader))
  unfolding new read_segment
  begins-so h = go (leb (length image) largest_image) h
    where
      go : (b : Bool) → (cond b (opened_with file image (opened image)) (step zeros (refusal 12))).reply ≡ told []
          → cond b (read_opened file image list (opened image)) (surveyed (refusal 12) list)
          ≡ survey_of list 0 0 (read_from file image (where_to image (cond b (opened_with file image (opened image)) (step zeros (refusal 12))).reader))
      go true h = opened-so (opened image) refl h
      go false h = let z : ◌≡◌ {A = ℕ} 0 1 = cc in absurd (omega arith)

  refused-so : (why : Refusal) → (new file image).reply ≡ refused_by why → surveyed (refused_by why) list ≡ read_segment file image list
  unfolding new read_segment opened_with read_opened
  refused-so why h = go (leb (length image) largest_image) (opened image) h
    where
      go : (b : Bool) (o : Opened) → (cond b (opened_with file image o) (step zeros (refusal 12))).reply ≡ refused_by why
          → surveyed (refused_by why) list ≡ cond b (read_opened file image list o) (surveyed (refusal 12) list)
      go true (opens v) h = absurd (never-told [] why h)
      go true (refuses m) h = ap (λ (k : Reply). surveyed k list) (sym h)
      go false o h = ap (λ (k : Reply). surveyed k list) (sym h)

  -- a reader that was opened is between two entries, and of this file
  opened-calm : (o : Opened) → (opened_with file image o).reply ≡ told []
      → ((opened_with file image o).reader.moment ≡ Between) × ((opened_with file image o).reader.file_id ≡ file)
  unfolding opened_with
  opened-calm (opens v) h = (refl, refl)
  opened-calm (refuses n) h = let z : ◌≡◌ {A = ℕ} 0 1 = cc in absurd (omega arith)

  begins-calm : (new file image).reply ≡ told [] → ((new file image).reader.moment ≡ Between) × ((new file image).reader.file_id ≡ file)
  unfolding new
  begins-calm h = go (leb (length image) largest_image) h
    where
      go : (b : Bool) → (cond b (opened_with file image (opened image)) (step zeros (refusal 12))).reply ≡ told []
          → ((cond b (opened_with file image (opened image)) (step zeros (refusal 12))).reader.moment ≡ Between)
          × ((cond b (opened_with file image (opened image)) (step zeros (refusal 12))).reader.file_id ≡ file)
      go true h = opened-calm (opened image) h
      go false h = let z : ◌≡◌ {A = ℕ} 0 1 = cc in absurd (omega arith)

  new-going : (new file image).reply ≡ told [] → Going file image list list (new file image).reader 0 0
  new-going h =
      let c = begins-calm h in
      record {
        ready = record { led = opened-led file image h; calm = rw c.0 tt };
        file-same = c.1;
        few = zero-le;
        fewer = zero-le;
        rest = begins-so h;
      }

  pub going-begins : (r : SegmentReader) → NewAllows file image (Ok tt) r → Going file image list list r 0 0
  going-begins r h = rw (ap (λ (z : Step). z.reader) h) (new-going (sym (ap (λ (z : Step). z.reply) h)))

  pub going-refused : (why : Refusal) (r : SegmentReader) → NewAllows file image (Err why) r → ReadSegmentAllows file image list (Err why) list
  going-refused why r h = refused-so _ (sym (ap (λ (z : Step). z.reply) h))

-- ---- an entry is met, a cut is passed, it is over

one-most : (w : Whole) → one_if w ≤ 1
unfolding one_if
one-most (complete k q) = omega arith
one-most (aborted q) = omega arith
one-most (cut_off c q) = omega arith
one-most (wrong_sum q) = omega arith

one-by-whole : (w : Whole) → one_by (verdict_read w) ≡ one_if w
unfolding verdict_read one_if
one-by-whole (complete k q) = refl
one-by-whole (aborted q) = refl
one-by-whole (cut_off c q) = refl
one-by-whole (wrong_sum q) = refl

module _ (file : ℕ) (image : List ℕ) (before list : List EntryRead) (r : SegmentReader) (met full : ℕ) (g : Going file image before list r met full) where
  pub going_on : (q : SegmentReader) (e : EntryRead) (list' : List EntryRead) (one : ℕ) → FoundSays image r q e → list' ≡ noted list met e → one ≡ one_by e.verdict
      → Going file image before list' q (met + 1) (full + one)
  unfolding entry_read
  going_on q e list' one s n o =
      let p : ℕ = where_to image r in
      let w : Whole = whole image (p + 9) in
      let f : Found = found_at image p e.id in
      let same : e ≡ entry_read f = λ i. record { verdict = s.verdict i; id = e.id; place = s.chunks i } in
      let k : list' ≡ noted list met (entry_read f) = n ∙ ap (noted list met) same in
      let l : lead file image p ≡ entry e.id = rw g.file-same at s.begins in
      let c : one ≡ one_if w = o ∙ ap one_by s.verdict ∙ one-by-whole w in
      let m = one-most w in
      let fw = s.forward in
      let few = g.few in
      let fewer = g.fewer in
      record {
        ready = s.ready;
        file-same = s.same_file ∙ g.file-same;
        few = omega arith;
        fewer = omega arith;
        rest =
            g.rest
            ∙ ap (survey_of list met full) (read-entry file image p l ∙ ap (λ (t : ℕ). with_entry f (read_from file image t)) (sym s.goes_on))
            ∙ survey-on list met full f (read_from file image (where_to image q))
            ∙ rw (k, c);
      }

  pub going-over : (q : SegmentReader) → OverSays image r q
      → ReadSegmentAllows file image before (Ok (record { met = met; complete = full; valid_until = q.valid_until })) list
  unfolding survey_of recorded completes
  going-over q s =
      let l : lead file image (where_to image r) ≡ none = rw g.file-same at s.ends in
      sym (g.rest ∙ ap (survey_of list met full) (read-ended file image (where_to image r) l) ∙ rw (add-zero met, add-zero full, ← s.valid))

-- the iterator is at its end
pub going-ends : (file : ℕ) (image : List ℕ) (before list : List EntryRead) (s t : Entries) (met full : ℕ) → Bytes image
    → (s.reader.image.now ≡ image) × Going file image before list s.reader.state met full → EntriesNext s None t
    → ReadSegmentAllows file image before (Ok (record { met = met; complete = full; valid_until = t.reader.state.valid_until })) list
going-ends file image before list s t met full bytes i n =
    let o : OverSays s.reader.image.now s.reader.state t.reader.state = n.says (rw i.0 bytes) (rw i.0 i.1.ready) in
    going-over file image before list s.reader.state met full i.1 t.reader.state (rw i.0 at o)

pub ruleset going = (going-begins, going-refused, going_on, going-over)
