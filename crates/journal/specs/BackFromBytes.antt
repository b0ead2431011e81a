-- Back from bytes: for a writer opened fresh, idle and flushed, after any calls, a reader given the image cut off at the logical position, with the
-- writer's id, yields exactly the entries committed since opening or recycling. Over the code's own calls: an opening that `OpenAllows` allows, steps that
-- `StepAllows` allows, a reading that `ReadSegmentAllows` allows.
use Rattle.std.specs.Prelude.{ℕ, ◌+◌, ◌≤◌, ◌≡◌, List, ◌++◌, length, take, replicate, Result, Ok}
use Rattle.std.proofs.Common.{ap, sym, ◌∙◌, subst, append-nil}
use Rattle.entry.specs.Format.{Entry, segment, largest_image}
use Rattle.entry.specs.declared.Refusal.{Refusal}
use Rattle.log_file.specs.State.{Machine, position}
use Rattle.log_file.specs.Opening.{Terms}
use Rattle.log_file.specs.History.{fresh}
use Rattle.segment_reader.specs.declared.survey.SegmentRead.{SegmentRead}
use Rattle.segment_reader.specs.declared.survey.EntryRead.{EntryRead}
use Rattle.segment_reader.specs.Driver.{in_words, ReadSegmentAllows}
use Rattle.segment_reader.specs.WordsLaws.{recorded-words}
use Rattle.reading.specs.RoundTrip.{round-trip-zeros}
use Rattle.reading.specs.Yielded.{as_found}
use Rattle.segment_reader.specs.ReadBack.{read_back}
use Rattle.journal.specs.Stories.{calls}
use Rattle.journal.specs.CutsDoNotShow.{Given}
use Rattle.journal.specs.CodeRuns.{Opening, OpensFresh, opened_as, Stepping, Run, hears}
use Rattle.journal.specs.Committed.{history_after, writer_after, Typed, AtRest, HoldsSegment, GivesBack}
use Rattle.journal.specs.CommittedLaws.{committed-segment}

segment-back : (m : Machine) (info : List ℕ) (es : List Entry) → HoldsSegment m info es → (before : List EntryRead) (a : Result SegmentRead Refusal) (after : List EntryRead)
    → ReadSegmentAllows m.writer.id (take (position m.writer) m.image) before a after
    → GivesBack (take (position m.writer) m.image) info es (position m.writer) before a after
segment-back m info es k before a after x =
    let file = m.writer.id in
    let e : take (position m.writer) m.image ≡ segment info es ++ replicate 0 0 = k.image ∙ sym (append-nil (segment info es)) in
    let l : length (segment info es ++ replicate 0 0) ≤ largest_image = rw append-nil (subst (λ n. n ≤ largest_image) k.ends k.small) in
    let b = read_back file info es 0 k.readable l before a after (rw e at x) in
    record {
      answer = b.0 ∙ ap (λ (n : ℕ). Ok (record { met = length es; complete = length es; valid_until = n })) (sym k.ends);
      recorded_so = b.1;
      words_so = ap in_words b.1 ∙ recorded-words before 0 (as_found (5 + length info) es);
      yields_them = rw e (round-trip-zeros file info es k.readable 0).1;
    }

-- ---- the theorem

module _ (o : Terms) (g : Given) (x : Opening) (p : OpensFresh o g x) (e : x.result ≡ Ok tt) (xs : List Stepping) (r : Run (opened_as x) xs)
    (t : Typed xs) (z : AtRest (writer_after (opened_as x) xs)) where
  abbrev pub writer_at_rest : Machine
  writer_at_rest = writer_after (opened_as x) xs

  abbrev pub committed_entries : List Entry
  committed_entries = (history_after (length g.image) (fresh o.info o.id o.last) (calls (hears xs))).committed

  pub back-from-bytes : (before : List EntryRead) (a : Result SegmentRead Refusal) (after : List EntryRead)
      → ReadSegmentAllows writer_at_rest.writer.id (take (position writer_at_rest.writer) writer_at_rest.image) before a after
      → GivesBack (take (position writer_at_rest.writer) writer_at_rest.image) o.info committed_entries (position writer_at_rest.writer) before
      a after
  back-from-bytes = segment-back writer_at_rest o.info committed_entries (committed-segment o g x p e xs r t z)
