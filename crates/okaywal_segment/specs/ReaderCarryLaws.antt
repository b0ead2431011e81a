-- From call to call: the words that a reader's call leaves are in their ranges, and the next call reads from them the very state that it left. For every
-- reader that an opening led to (`Led`), over an image of bytes.
use Rattle.std.specs.Prelude.{ℕ, ◌≤◌, ◌≡◌, refl, false, List, [], ◌∷◌, ◌++◌, length, leb}
use Rattle.std.proofs.Common.{arith, ap, sym, ◌∙◌, leb-true, le-leb}
use Rattle.std.proofs.Math.Bool.{true}
use Rattle.lists.specs.Lay.{lay}
use Rattle.lists.specs.LayLaws.{lay-fits}
use Rattle.lists.specs.Answers.{number_of}
use Rattle.lists.specs.AnswersLaws.{every, all_hold}
use Rattle.lists.specs.ChoiceLaws.{either}
use Rattle.lists.specs.NumbersLaws.{Bytes}
use Rattle.segment_reader.specs.declared.Moment.{Moment}
use Rattle.segment_reader.specs.declared.Moment.TheVariants.{Between, InEntry, InChunk, Ended}
use Rattle.segment_reader.specs.declared.SegmentReader.{SegmentReader}
use Rattle.segment_reader.specs.Calls.{Call, Step, answer_of, read_by}
use Rattle.segment_reader.specs.LedLaws.{Kind, Led, call-led}
use Rattle.okaywal_segment.specs.Words.{word}
use Rattle.okaywal_segment.specs.ReaderWords.{reading_words, reader_words, reader_from, part_fits, reader_fits}
use Rattle.okaywal_segment.specs.ReaderWordsLaws.{length-reader_words, next-sees}
use Rattle.okaywal_segment.specs.Steps.{enough_to_read}
use Rattle.okaywal_segment.specs.ReaderCrossing.{Read, wanted, moves, passes, restated, crossed, ReaderAllows}

moment-fits : (image : List ℕ) (p v : ℕ) (m : Moment) (rest : List ℕ) → Kind image p v m
    → (leb (word 0 (reading_words m ++ rest)) 3 ≡ true)
    × (part_fits (word 0 (reading_words m ++ rest)) (word 3 (reading_words m ++ rest)) (word 4 (reading_words m ++ rest)) ≡ true)
moment-fits image p v Between rest k = (refl, refl)
moment-fits image p v (InEntry id) rest k = (refl, refl)
moment-fits image p v (InChunk id mark n owed) rest k =
    (refl, all_hold (leb n 4294967295 ∷ leb owed 4294967295 ∷ []) (le-leb n 4294967295 (omega arith), (le-leb owed 4294967295 (omega arith), tt)))
moment-fits image p v Ended rest k = (refl, refl)

words-fit : (image : List ℕ) (r : SegmentReader) (rest : List ℕ) → Led image r → reader_fits (reader_words r ++ rest) ≡ true
unfolding reader_fits reader_words
words-fit image r rest l = let m = moment-fits image r.place r.valid_until r.moment rest l.kind in rw (m.0, m.1)

-- the words of a state that an opening led to
pub record Holds (image state' : List ℕ) (r : SegmentReader) : Type 0 where
  pub fits : reader_fits state' ≡ true
  pub same : reader_from state' ≡ r
  pub led : Led image r

pub held : (image state : List ℕ) (r : SegmentReader) → 10 ≤ length state → Led image r → Holds image (lay state 0 (reader_words r)) r
held image state r h l =
    let n = length-reader_words r in
    record {
      fits = rw (lay-fits state 0 (reader_words r) (omega arith)) (words-fit image r _ l);
      same = next-sees state r h;
      led = l;
    }

module _ (c : Call) (state image answer : List ℕ) (bytes : Bytes image) (moving : moves c ≡ true) (l : Led image (reader_from state)) where
  crossed-holds : passes (crossed c state image answer).number ≡ true
      → Holds image (crossed c state image answer).state (read_by c (reader_from state) image).reader
  unfolding crossed
  crossed-holds =
      either Held (enough_to_read (wanted c) state answer) _ _
      (λ long. either Held (reader_fits state) _ _ (λ _ z. made long (read_by c (reader_from state) image) z (call-led image bytes (reader_from state) l c)) (λ _ z. never z))
      (λ _ z. never z)
    where
      Held : Read → Type 0
      Held x = passes x.number ≡ true → Holds image x.state (read_by c (reader_from state) image).reader

      never : {A : Type 0} → false ≡ true → A
      never e = let z : ◌≡◌ {A = ℕ} 0 1 = cc in absurd (omega arith)

      made : enough_to_read (wanted c) state answer ≡ true → (s : Step) → passes (number_of (answer_of s.reply)) ≡ true → Led image s.reader
          → Holds image (restated c state s) s.reader
      made e s p k =
          let z = every (leb 10 (length state) ∷ leb (wanted c) (length answer) ∷ []) e in
          rw (moving, p) (held image state s.reader (leb-true 10 (length state) z.0) k)

  pub next-call : (n : ℕ) (s a : List ℕ) → ReaderAllows c state image answer n s a → passes n ≡ true → Holds image s (read_by c (reader_from state) image).reader
  next-call n s a e p = rw (ap (λ (x : Read). x.state) e) (crossed-holds (ap (λ (x : Read). passes x.number) (sym e) ∙ p))
