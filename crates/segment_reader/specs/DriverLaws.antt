-- What an entry more adds to what is answered and recorded, and that `read_segment` has one answer.
use Rattle.std.specs.Prelude.{List, [], ◌∷◌, ◌≡◌, ℕ, suc, ◌+◌, length, Result}
use Rattle.std.proofs.Common.{sym, ap, ap₂, ◌∙◌, arith}
use Rattle.entry.specs.declared.Refusal.{Refusal}
use Rattle.segment_reader.specs.Calls.{told}
use Rattle.segment_reader.specs.PromisesLaws.{reply-one}
use Rattle.reading.specs.WholeReading.{Found, Reading, with_entry}
use Rattle.segment_reader.specs.Driver.{entry_read, noted, recorded, one_if, completes, Surveyed, surveyed, survey_of, segment_values, ReadSegmentAllows}
use Rattle.segment_reader.specs.declared.survey.EntryRead.{EntryRead}
use Rattle.segment_reader.specs.declared.survey.SegmentRead.{SegmentRead}

-- ---- what is answered and recorded, entry by entry

pub survey-on : (list : List EntryRead) (k c : ℕ) (f : Found) (r : Reading)
    → survey_of list k c (with_entry f r) ≡ survey_of (noted list k (entry_read f)) (k + 1) (c + one_if f.contents) r
unfolding survey_of with_entry recorded completes
survey-on list k c f r =
    let a : k + suc (length r.entries) ≡ k + 1 + length r.entries = omega arith in
    let b : c + (one_if f.contents + completes r.entries) ≡ c + one_if f.contents + completes r.entries = omega arith in
    let d : suc k ≡ k + 1 = omega arith in
    ap₂ surveyed
    (ap told (ap₂ ◌∷◌ a (ap (λ (m : ℕ). m ∷ r.valid_until ∷ []) b)))
    (ap (λ (m : ℕ). recorded (noted list k (entry_read f)) m r.entries) d)

-- ---- one answer

segment-one : (x y : SegmentRead) → segment_values x ≡ segment_values y → x ≡ y
segment-one x y e =
    let m : x.met ≡ y.met = cc in
    let c : x.complete ≡ y.complete = cc in
    let v : x.valid_until ≡ y.valid_until = cc in
    λ i. record { met = m i; complete = c i; valid_until = v i }

pub read-segment-one-answer : (file : ℕ) (image : List ℕ) (before : List EntryRead) (a b : Result SegmentRead Refusal) (after after' : List EntryRead)
    → ReadSegmentAllows file image before a after → ReadSegmentAllows file image before b after' → (a ≡ b) × (after ≡ after')
read-segment-one-answer file image before a b after after' x y =
    (reply-one segment_values segment-one a b (ap (λ (s : Surveyed). s.reply) (x ∙ sym y)), ap (λ (s : Surveyed). s.list) (x ∙ sym y))
