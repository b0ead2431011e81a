-- Openings across the boundary: a refused one leaves zeros (a reader's word 5 is 3), an accepted one leaves words from which the next call reads the
-- state that was opened.
use Rattle.std.specs.Prelude.{ℕ, ◌+◌, ◌≤◌, ◌≡◌, Bool, true, false, ◌&&◌, length, take, get_or, replicate, leb, ltb, eqb}
use Rattle.std.proofs.Common.{arith, zero-add, sym, ◌∙◌, leb-true}
use Rattle.std.proofs.Math.Path.{refl, ap}
use Rattle.std.proofs.Math.Bool.{cond}
use mathlib.Core.List.{List, [], ◌∷◌}
use Rattle.std.proofs.Math.ListN.{length-replicate}
use Rattle.lists.specs.Lay.{lay}
use Rattle.lists.specs.LayLaws.{length-lay, lay_done, lay-fits}
use Rattle.lists.specs.Answers.{number_of}
use Rattle.lists.specs.AnswersLaws.{every}
use Rattle.lists.specs.ChoiceLaws.{either, obeyed}
use Rattle.entry.specs.Format.{largest_image}
use Rattle.log_file.specs.State.{Machine, machine}
use Rattle.log_file.specs.Calls.{Called}
use Rattle.log_file.specs.Opening.{Terms, open_refusal, opened_machine, blank, opened}
use Rattle.log_file.specs.OpeningLaws.{refused-opening}
use Rattle.segment_reader.specs.declared.SegmentReader.{SegmentReader}
use Rattle.reading.specs.Reading.{Opened, opens, refuses, opened as header_of}
use Rattle.segment_reader.specs.Calls.{Step, told, answer_of, zeros, opened_with, new}
use Rattle.segment_reader.specs.LedLaws.{opened-led}
use Rattle.okaywal_segment.specs.WriterWords.{writer_words, writer_from, writer_fits}
use Rattle.okaywal_segment.specs.WriterWordsLaws.{blank-words, length-writer_words, next-sees}
use Rattle.okaywal_segment.specs.CarryLaws.{Small, words-fit}
use Rattle.okaywal_segment.specs.ReaderWords.{reader_words}
use Rattle.okaywal_segment.specs.ReaderWordsLaws.{zeros-words}
use Rattle.okaywal_segment.specs.ReaderCarryLaws.{Holds, held}
use Rattle.okaywal_segment.specs.Steps.{enough, enough_to_read}
use Rattle.okaywal_segment.specs.OpeningCrossing.{Request, Start, start, started_by, opening_of, started, OpenAllows}
use Rattle.okaywal_segment.specs.ReaderCrossing.{Read, read, opened_reader}
use Rattle.okaywal_segment.specs.ReaderPromises.{OpenAllows as ReaderOpenAllows}

-- ---- a writer's

pub record Zeros (state info image staging : List ℕ) (s v i g : List ℕ) : Type 0 where
  pub state_zero : s ≡ lay state 0 (replicate 16 0)
  pub info_zero : v ≡ lay info 0 (replicate 255 0)
  pub image_kept : i ≡ image
  pub staging_kept : g ≡ staging

-- the version info is an array of 255, and no chunk is open
pub record Fresh (m : Machine) : Type 0 where
  pub full : length m.writer.info ≡ 255
  pub small : Small m.writer.moment

module _ (q : Request) (image staging : List ℕ) where
  opening-refused : (number_of (opening_of q image staging).answer ≡ 0 → ⊥) → (opening_of q image staging).machine' ≡ machine blank image staging
  unfolding opening_of
  opening-refused =
      either (λ (r : Called). (number_of r.answer ≡ 0 → ⊥) → r.machine' ≡ machine blank image staging) (ltb 1 q.known) _ _ (λ _ h. refl)
      (λ _ h. refused-opening _ q.validated q.file_length image staging h)

  blank-fresh : Fresh (machine blank image staging)
  blank-fresh = record { full = length-replicate {A = ℕ} 255 0; small = tt }

  opened-fresh : (o : Terms) → Fresh (opened o q.validated q.file_length image staging).machine'
  unfolding opened opened_machine
  opened-fresh o =
      obeyed Fresh (open_refusal o q.validated q.file_length (length image) (length staging)) (machine blank image staging)
      (opened_machine o q.validated q.file_length image staging) blank-fresh
      (λ _. record { full = length-lay (replicate 255 0) 0 o.info ∙ length-replicate {A = ℕ} 255 0; small = tt })

  opening-fresh : Fresh (opening_of q image staging).machine'
  unfolding opening_of
  opening-fresh = either (λ (r : Called). Fresh r.machine') (ltb 1 q.known) _ _ (λ _. blank-fresh) (λ _. opened-fresh _)

-- an array of 255, out of the slice that it was stored into
info-back : (info held : List ℕ) → 255 ≤ length info → length held ≡ 255 → take 255 (lay info 0 held) ≡ held
info-back info held h e =
    ap (λ (k : ℕ). take k (lay info 0 held)) (sym (zero-add (length held) ∙ e)) ∙ lay_done info 0 held (omega arith)

reach : (state info : List ℕ) → enough 0 state info [] ≡ true → (16 ≤ length state) × (255 ≤ length info)
reach state info e = let z = every (leb 16 (length state) ∷ leb 255 (length info) ∷ leb 0 0 ∷ []) e in omega (arith, leb-true)

module _ (state info image staging : List ℕ) (q : Request) (long : enough 0 state info [] ≡ true) (n : ℕ) (s v i g : List ℕ)
    (e : OpenAllows state info image staging q n s v i g) where
  started-is : start n s v i g ≡ started_by state info (opening_of q image staging)
  unfolding started
  started-is = e ∙ ap (λ (b : Bool). cond b (started_by state info (opening_of q image staging)) (start 12 state info image staging)) long

  -- refused: 16 words and 255 bytes are 0, and the buffers stay
  pub refused-leaves-zeros : (n ≡ 0 → ⊥) → Zeros state info image staging s v i g
  refused-leaves-zeros h =
      let r = opening_of q image staging in
      let m = opening-refused q image staging (λ z. h (ap (λ (x : Start). x.number) started-is ∙ z)) in
      record {
        state_zero = ap (λ (x : Start). x.state) started-is ∙ ap (λ (x : Machine). lay state 0 (writer_words x.writer)) m ∙ ap (lay state 0) blank-words;
        info_zero = ap (λ (x : Start). x.info) started-is ∙ ap (λ (x : Machine). lay info 0 x.writer.info) m;
        image_kept = ap (λ (x : Start). x.image) started-is ∙ ap (λ (x : Machine). x.image) m;
        staging_kept = ap (λ (x : Start). x.staging) started-is ∙ ap (λ (x : Machine). x.staging) m;
      }

  -- the next call sees the writer that was opened
  pub next-call : (writer_fits s ≡ true) × (writer_from s v ≡ (opening_of q image staging).machine'.writer)
  next-call =
      let w = (opening_of q image staging).machine'.writer in
      let f = opening-fresh q image staging in
      let r = reach state info long in
      let l = length-writer_words w in
      let es : s ≡ lay state 0 (writer_words w) = ap (λ (x : Start). x.state) started-is in
      let ev : v ≡ lay info 0 w.info = ap (λ (x : Start). x.info) started-is in (
        rw (es, lay-fits state 0 (writer_words w) (omega arith)) (words-fit w _ f.small),
        rw (es, ev) (next-sees state (lay info 0 w.info) w r.0 (info-back info w.info r.1 f.full)),
      )

-- ---- a reader's

-- a header is never refused with 0
header-refuses : (image : List ℕ) (k : ℕ) → header_of image ≡ refuses k → k ≡ 0 → ⊥
unfolding header_of
header-refuses image k e z =
    go (leb 5 (length image)) (eqb (get_or image 0 0) 0x6F && eqb (get_or image 1 0) 0x6B && eqb (get_or image 2 0) 0x77) (eqb (get_or image 3 0) 0) (leb (5 + get_or image 4 0) (length image)) e
  where
    go : (a b c d : Bool) → cond a (cond b (cond c (cond d (opens (get_or image 4 0)) (refuses 1)) (refuses 3)) (refuses 2)) (refuses 1) ≡ refuses k → ⊥
    go true true true true q = let y : ◌≡◌ {A = ℕ} 0 1 = cc in omega arith
    go true true true false q = let y : 1 ≡ k = cc in omega arith
    go true true false d q = let y : 3 ≡ k = cc in omega arith
    go true false c d q = let y : 2 ≡ k = cc in omega arith
    go false b c d q = let y : 1 ≡ k = cc in omega arith

module _ (file : ℕ) (image : List ℕ) where
  new-refused : (number_of (answer_of (new file image).reply) ≡ 0 → ⊥) → (new file image).reader ≡ zeros
  unfolding new opened_with answer_of
  new-refused =
      either (λ (s : Step). (number_of (answer_of s.reply) ≡ 0 → ⊥) → s.reader ≡ zeros) (leb (length image) largest_image) _ _ (λ _. go (header_of image)) (λ _ h. refl)
    where
      go : (o : Opened) → (number_of (answer_of (opened_with file image o).reply) ≡ 0 → ⊥) → (opened_with file image o).reader ≡ zeros
      go (opens k) h = absurd (h refl)
      go (refuses k) h = refl

  new-accepted : number_of (answer_of (new file image).reply) ≡ 0 → (new file image).reply ≡ told []
  unfolding new opened_with answer_of
  new-accepted =
      either (λ (s : Step). number_of (answer_of s.reply) ≡ 0 → s.reply ≡ told []) (leb (length image) largest_image) _ _ (λ _. go (header_of image) refl) (λ _ z. absurd (omega arith))
    where
      go : (o : Opened) → header_of image ≡ o → number_of (answer_of (opened_with file image o).reply) ≡ 0 → (opened_with file image o).reply ≡ told []
      go (opens k) e z = refl
      go (refuses k) e z = absurd (header-refuses image k e z)

module _ (state image : List ℕ) (file : ℕ) (long : enough_to_read 0 state [] ≡ true) (n : ℕ) (s : List ℕ) (e : ReaderOpenAllows state image file n s) where
  opened-is : read n s [] ≡ read (number_of (answer_of (new file image).reply)) (lay state 0 (reader_words (new file image).reader)) []
  unfolding opened_reader
  opened-is =
      e
      ∙ ap
      (λ (b : Bool). cond b (read (number_of (answer_of (new file image).reply)) (lay state 0 (reader_words (new file image).reader)) []) (read 12 state [])) long

  -- refused: zeros, but word 5 is 3
  pub refused-is-ended : (n ≡ 0 → ⊥) → s ≡ lay state 0 (0 ∷ 0 ∷ 0 ∷ 0 ∷ 0 ∷ 3 ∷ 0 ∷ 0 ∷ 0 ∷ 0 ∷ [])
  refused-is-ended h =
      ap (λ (x : Read). x.state) opened-is
      ∙ ap (λ (r : SegmentReader). lay state 0 (reader_words r)) (new-refused file image (λ z. h (ap (λ (x : Read). x.number) opened-is ∙ z)))
      ∙ ap (lay state 0) zeros-words

  -- accepted: the next call sees the reader that was opened
  pub reader-next-call : n ≡ 0 → Holds image s (new file image).reader
  reader-next-call z =
      let t = every (leb 10 (length state) ∷ leb 0 0 ∷ []) long in
      let a : number_of (answer_of (new file image).reply) ≡ 0 = sym (ap (λ (x : Read). x.number) opened-is) ∙ z in
      rw (ap (λ (x : Read). x.state) opened-is)
      (held image state (new file image).reader (leb-true 10 (length state) t.0) (opened-led file image (new-accepted file image a)))
