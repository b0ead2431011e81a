-- How a reader's call comes out: what its result tells, laid into the slices that are lent, is what `crossed` says.
use Rattle.std.proofs.Common.{◌≡◌, refl, ℕ, Bool, true, false, cond, List, [], ◌∷◌, length, replicate, leb, Ok, Err, ap, ◌&&◌, ◌∙◌}
use Rattle.lists.specs.Lay.{lay}
use Rattle.lists.specs.Answers.{all, number_of}
use Rattle.entry.specs.declared.Refusal.TheVariants.{OutOfRange}
use Rattle.segment_reader.specs.declared.SegmentReader.{SegmentReader}
use Rattle.segment_reader.specs.Calls.{Call, crc_check, Reply as Said, answer_of, step, check_crc, read_by}
use Rattle.okaywal_segment.specs.Words.{answer_words}
use Rattle.okaywal_segment.specs.ReaderWords.{reader_from, reader_fits}
use Rattle.okaywal_segment.specs.Steps.{enough_to_read}
use Rattle.okaywal_segment.specs.ReaderCrossing.{Read, read, wanted, moves, handed, crossed, opened_reader, ReaderAllows}
use Rattle.okaywal_segment.specs.ReaderPromises.{OpenAllows}
use Rattle.okaywal_segment.specs.ReaderSteps.{crossing, crossed_bare, crossed_by}
use Rattle.okaywal_segment.proofs.Ways.{lay_none}

abbrev laid : List ℕ → Read → Read
laid answer l = read l.number l.state (lay answer 0 l.answer)

abbrev bare : Read → Read
bare l = read l.number l.state []

module _ (c : Call) (moving : moves c ≡ true) (state image answer : List ℕ) (r : SegmentReader) where
  -- a: the state is long enough; d: the answer; f: every word is in its range
  comes-out : (a d f : Bool)
      → cond (all (a ∷ d ∷ [])) (laid answer (crossing c state image (cond (all (a ∷ f ∷ [])) (Ok r) (Err OutOfRange)))) (read 12 state answer)
      ≡ cond (all (a ∷ d ∷ [])) (cond f (handed c state answer (read_by c r image)) (read 12 state (lay answer 0 (replicate 4 0)))) (read 12 state answer)
  comes-out true true true = rw moving
  comes-out true true false = refl
  comes-out true false f = refl
  comes-out false d f = refl

  -- with no answer
  comes-out-bare : (a f : Bool)
      → bare (crossing c state image (cond (all (a ∷ f ∷ [])) (Ok r) (Err OutOfRange)))
      ≡ cond (all (a ∷ true ∷ [])) (cond f (handed c state [] (read_by c r image)) (read 12 state (lay [] 0 (replicate 4 0)))) (read 12 state [])
  comes-out-bare true true = rw (moving, lay_none)
  comes-out-bare true false = rw lay_none
  comes-out-bare false f = refl

module _ (c : Call) (state image : List ℕ) (moving : moves c ≡ true) where
  pub answered : (answer : List ℕ) (l : Read) → wanted c ≡ 4 → l ≡ crossed_by 4 c state image answer → l ≡ crossed c state image answer
  unfolding crossed
  answered answer l e p =
      rw e (p ∙ comes-out c moving state image answer (reader_from state) (leb 10 (length state)) (leb 4 (length answer)) (reader_fits state))

  pub unanswered : (l : Read) → wanted c ≡ 0 → l ≡ crossed_bare c state image → l ≡ crossed c state image []
  unfolding crossed
  unanswered l e p = rw e (p ∙ comes-out-bare c moving state image [] (reader_from state) (leb 10 (length state)) (reader_fits state))

-- a CRC check: nothing moves
pub checked : (state image answer : List ℕ) → (enough_to_read 4 state answer && reader_fits state) ≡ true → (r : SegmentReader) (a : Said)
    → r ≡ reader_from state → a ≡ check_crc r image
    → ReaderAllows crc_check state image answer (number_of (answer_of a)) state (lay answer 0 (answer_words (answer_of a)))
unfolding crossed read_by
checked state image answer e r a er ec = go (enough_to_read 4 state answer) (reader_fits state) e
  where
    h : handed crc_check state answer (step r a) ≡ handed crc_check state answer (read_by crc_check (reader_from state) image)
    h = ap (handed crc_check state answer) (ap (step r) ec ∙ ap (λ (q : SegmentReader). read_by crc_check q image) er)

    go : (b f : Bool) → (b && f) ≡ true
        → read (number_of (answer_of a)) state (lay answer 0 (answer_words (answer_of a)))
        ≡ cond b (cond f (handed crc_check state answer (read_by crc_check (reader_from state) image)) (read 12 state (lay answer 0 (replicate 4 0)))) (read 12 state answer)
    go true true e = h
    go true false e = cc
    go false f e = cc

-- an opening with too short a state
pub too_short : (state image : List ℕ) (file : ℕ) → enough_to_read 0 state [] ≡ false → OpenAllows state image file 12 state
unfolding opened_reader
too_short state image file e = rw e
