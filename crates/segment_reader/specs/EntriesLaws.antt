-- Any two items and readers that `next` allows are equal. The idea: each call that it makes has one answer.
use Rattle.std.specs.Prelude.{List, ℕ, ◌≡◌, Option, Some, None, Result, Ok, Err}
use Rattle.std.proofs.Common.{sym, ap, ◌∙◌}
use Rattle.entry.specs.declared.Refusal.{Refusal}
use Rattle.segment_reader.specs.Turns.{verdict_by}
use Rattle.segment_reader.specs.PromisesLaws.{read-entry-one-answer, read-all-chunks-one-answer}
use Rattle.segment_reader.specs.Entries.{BehindSays, CallsSay, EntriesNext}
use Rattle.segment_reader.specs.declared.SegmentReader.{SegmentReader}
use Rattle.segment_reader.specs.declared.WholeEntry.{WholeEntry}
use Rattle.segment_reader.specs.declared.survey.EntryRead.{EntryRead}
use Rattle.segment_reader.specs.declared.entries.Entries.{Entries}

module _ (image : List ℕ) (i j : Option EntryRead) (p q : SegmentReader) where
  behind-one : (a : Result (Option ℕ) Refusal) (r : SegmentReader) → BehindSays image a r i p → BehindSays image a r j q → (i ≡ j) × (p ≡ q)
  behind-one (Ok (Some id)) r x y =
      let h = read-all-chunks-one-answer r image x.answer y.answer p q x.allows y.allows in
      (x.met ∙ ap (λ (w : Result WholeEntry Refusal). Some (record { verdict = verdict_by w; id = id; place = r.place })) h.0 ∙ sym y.met, h.1)
  behind-one (Ok None) r x y = (x.0 ∙ sym y.0, x.1 ∙ sym y.1)
  behind-one (Err why) r x y = (x.over ∙ sym y.over, (read-entry-one-answer r image x.answer y.answer p q x.allows y.allows).1)

  calls-one : (r : SegmentReader) → CallsSay image r i p → CallsSay image r j q → (i ≡ j) × (p ≡ q)
  calls-one r x y =
      let h = read-entry-one-answer r image x.answer y.answer x.behind y.behind x.allows y.allows in
      behind-one y.answer y.behind (rw (← h.0, ← h.1) x.says) y.says

pub entries-next-one-answer : (s : Entries) (i j : Option EntryRead) (t u : Entries) → EntriesNext s i t → EntriesNext s j u → (i ≡ j) × (t ≡ u)
entries-next-one-answer s i j t u x y =
    let h = calls-one s.reader.image.now i j t.reader.state u.reader.state s.reader.state x.calls y.calls in
    let e = x.image ∙ sym y.image in
    (h.0, λ k. record { reader = record { image = e k; state = h.1 k } })
