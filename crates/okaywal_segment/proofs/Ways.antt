-- How a call comes out: what its result tells, laid into the slices that are lent, is what `crossed` says.
use Rattle.std.proofs.Common.{◌≡◌, refl, ℕ, Bool, true, false, cond, List, [], ◌∷◌, length, replicate, leb, Ok, Err, ap, ◌&&◌, ◌∙◌}
use Rattle.lists.specs.Lay.{lay}
use Rattle.lists.specs.Answers.{Answer, all, number_of}
use Rattle.std.specs.declared.io.SeekFrom.{SeekFrom}
use Rattle.entry.specs.declared.Refusal.TheVariants.{OutOfRange}
use Rattle.log_file.specs.declared.LogFileWriter.{LogFileWriter}
use Rattle.log_file.specs.State.{machine}
use Rattle.log_file.specs.Calls.{Call, after, called, landing}
use Rattle.okaywal_segment.specs.WriterWords.{writer_from, writer_fits}
use Rattle.okaywal_segment.specs.Words.{answer_words}
use Rattle.okaywal_segment.specs.Steps.{enough}
use Rattle.okaywal_segment.specs.Crossing.{Left, left, wanted, moves, handed, crossed, WriterAllows}
use Rattle.okaywal_segment.specs.WriterSteps.{crossing, crossed_bare, crossed_by}

-- where there is no slice for an answer, none is stored
pub lay_none : (xs : List ℕ) (i : ℕ) → lay [] i xs ≡ []
unfolding lay
lay_none [] i = refl
lay_none (x ∷ xs) i = lay_none xs _

abbrev laid : List ℕ → Left → Left
laid answer l = left l.number l.state l.image l.staging (lay answer 0 l.answer)

abbrev bare : Left → Left
bare l = left l.number l.state l.image l.staging []

module _ (c : Call) (moving : moves c ≡ true) (state image staging answer : List ℕ) (w : LogFileWriter) where
  -- a: the state is long enough; b: the info; d: the answer; f: every word is in its range
  comes-out : (a b d f : Bool)
      → cond (all (a ∷ b ∷ d ∷ [])) (laid answer (crossing c state image staging (cond (all (a ∷ b ∷ f ∷ [])) (Ok w) (Err OutOfRange)))) (left 12 state image staging answer)
      ≡ cond (all (a ∷ b ∷ d ∷ [])) (cond f (handed c state answer (called (machine w image staging) c)) (left 12 state image staging (lay answer 0 (replicate 4 0)))) (left 12 state image staging answer)
  comes-out true true true true = rw moving
  comes-out true true true false = refl
  comes-out true true false f = refl
  comes-out true false d f = refl
  comes-out false b d f = refl

  -- with no answer
  comes-out-bare : (a b f : Bool)
      → bare (crossing c state image staging (cond (all (a ∷ b ∷ f ∷ [])) (Ok w) (Err OutOfRange)))
      ≡ cond (all (a ∷ b ∷ true ∷ [])) (cond f (handed c state [] (called (machine w image staging) c)) (left 12 state image staging (lay [] 0 (replicate 4 0)))) (left 12 state image staging [])
  comes-out-bare true true true = rw (moving, lay_none)
  comes-out-bare true true false = rw lay_none
  comes-out-bare true false f = refl
  comes-out-bare false b f = refl

module _ (c : Call) (state info image staging : List ℕ) (moving : moves c ≡ true) where
  pub answered : (answer : List ℕ) (l : Left) → wanted c ≡ 4 → l ≡ crossed_by 4 c state info image staging answer → l ≡ crossed c state info image staging answer
  unfolding crossed
  answered answer l e p =
      rw e
      (p ∙ comes-out c moving state image staging answer (writer_from state info) (leb 16 (length state)) (leb 255 (length info)) (leb 4 (length answer)) (writer_fits state))

  pub unanswered : (l : Left) → wanted c ≡ 0 → l ≡ crossed_bare c state info image staging → l ≡ crossed c state info image staging []
  unfolding crossed
  unanswered l e p =
      rw e
      (p ∙ comes-out-bare c moving state image staging [] (writer_from state info) (leb 16 (length state)) (leb 255 (length info)) (writer_fits state))

-- not called: 12; zeros in the answer, unless a slice is too short
pub not-called : (c : Call) (state info image staging answer : List ℕ) → (enough (wanted c) state info answer && writer_fits state) ≡ false
    → WriterAllows c state info image staging answer 12 state image staging (cond (enough (wanted c) state info answer) (lay answer 0 (replicate 4 0)) answer)
unfolding crossed
not-called c state info image staging answer e = go (enough (wanted c) state info answer) (writer_fits state) e
  where
    go : (b f : Bool) → (b && f) ≡ false
        → left 12 state image staging (cond b (lay answer 0 (replicate 4 0)) answer)
        ≡ cond b (cond f (handed c state answer (called (machine (writer_from state info) image staging) c)) (left 12 state image staging (lay answer 0 (replicate 4 0)))) (left 12 state image staging answer)
    go true true e = cc
    go true false e = refl
    go false f e = refl

-- a landing: nothing moves
pub landed : (from : SeekFrom) (state info image staging answer : List ℕ) → (enough 4 state info answer && writer_fits state) ≡ true → (w : LogFileWriter) (a : Answer)
    → w ≡ writer_from state info → after a (machine w image staging) ≡ called (machine w image staging) (landing from)
    → WriterAllows (landing from) state info image staging answer (number_of a) state image staging (lay answer 0 (answer_words a))
unfolding crossed
landed from state info image staging answer e w a ew ec = go (enough 4 state info answer) (writer_fits state) e
  where
    h : handed (landing from) state answer (after a (machine w image staging)) ≡ handed (landing from) state answer (called (machine (writer_from state info) image staging) (landing from))
    h = ap (handed (landing from) state answer) (ec ∙ ap (λ (v : LogFileWriter). called (machine v image staging) (landing from)) ew)

    go : (b f : Bool) → (b && f) ≡ true
        → left (number_of a) state image staging (lay answer 0 (answer_words a))
        ≡ cond b (cond f (handed (landing from) state answer (called (machine (writer_from state info) image staging) (landing from))) (left 12 state image staging (lay answer 0 (replicate 4 0)))) (left 12 state image staging answer)
    go true true e = h
    go true false e = cc
    go false f e = cc
