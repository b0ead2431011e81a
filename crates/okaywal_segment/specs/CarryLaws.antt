-- From call to call: the words that an accepted call leaves are in their ranges, and the next call reads from them the very state that it left. So a row
-- of calls across the boundary is the row of the calls themselves.
use Rattle.std.specs.Prelude.{ℕ, zero, suc, ◌^◌, ◌≤◌, ◌<◌, ◌≡◌, refl, true, cond, List, [], ◌∷◌, ◌++◌, length, leb, Option, Some, None}
use Rattle.std.proofs.Common.{arith, ap, leb-true, le-leb}
use Rattle.std.proofs.Math.Path.{sym}
use Rattle.std.proofs.Math.ListN.{take}
use Rattle.lists.specs.Lay.{lay}
use Rattle.lists.specs.LayLaws.{lay-fits}
use Rattle.lists.specs.Answers.{obey}
use Rattle.lists.specs.AnswersLaws.{every, all_hold}
use Rattle.lists.specs.ChoiceLaws.{either, obeyed}
use Rattle.crc32c.specs.CrcLaws.{crc_append-lt}
use Rattle.entry.specs.FormatLaws.{chunk_sum-none}
use Rattle.log_file.specs.declared.Moment.{Moment}
use Rattle.log_file.specs.declared.Moment.TheVariants.{Idle, InEntry, InChunk}
use Rattle.log_file.specs.declared.LogFileWriter.{LogFileWriter}
use Rattle.log_file.specs.State.{Machine, machine}
use Rattle.log_file.specs.Calls.{Call, begin_entry, begin_chunk, write, finish, commit, rollback, flush, recycle, synchronize, landing, owed_of, opened_chunk, got, closed_chunk, moment_after, acted, refusal, called}
use Rattle.log_file.specs.CallsLaws.{called-kept}
use Rattle.log_file.specs.HistoryRanges.{Argued}
use Rattle.okaywal_segment.specs.Words.{word}
use Rattle.okaywal_segment.specs.WriterWords.{last_known, moment_words, writer_words, moment_from, writer_from, chunk_fits, writer_fits}
use Rattle.okaywal_segment.specs.WriterWordsLaws.{length-writer_words, next-sees}
use Rattle.okaywal_segment.specs.Steps.{enough}
use Rattle.okaywal_segment.specs.Crossing.{Left, wanted, moves, crossed, WriterAllows}

-- ---- a chunk's numbers have 32 bits

abbrev pub Small : Moment → Type 0
Small Idle = Unit {0}
Small (InEntry id start) = Unit {0}
Small (InChunk id start n owed crc) = (n ≤ 4294967295) × (owed ≤ 4294967295) × (crc ≤ 4294967295)

small-from : (kind id start n owed crc : ℕ) → chunk_fits kind n owed crc ≡ true → Small (moment_from kind id start n owed crc)
small-from zero id start n owed crc e = tt
small-from (suc zero) id start n owed crc e = tt
small-from (suc (suc k)) id start n owed crc e =
    let z = every (leb n 4294967295 ∷ leb owed 4294967295 ∷ leb crc 4294967295 ∷ []) e in
    omega (arith, leb-true)

-- so they are where the words are in their ranges
small-words : (words info : List ℕ) → writer_fits words ≡ true → Small (writer_from words info).moment
unfolding writer_fits writer_from
small-words words info e =
    let z = every (leb (word 8 words) 1 ∷ leb (word 10 words) 2 ∷ chunk_fits (word 10 words) (word 13 words) (word 14 words) (word 15 words) ∷ []) e in
    small-from (word 10 words) (word 11 words) (word 12 words) (word 13 words) (word 14 words) (word 15 words) z.1.1.0

-- and the other way round
known-fits : (l : Option ℕ) → leb (last_known l) 1 ≡ true
known-fits None = refl
known-fits (Some id) = refl

moment-fits : (m : Moment) (rest : List ℕ) → Small m
    → (leb (word 0 (moment_words m ++ rest)) 2 ≡ true)
    × (chunk_fits (word 0 (moment_words m ++ rest)) (word 3 (moment_words m ++ rest)) (word 4 (moment_words m ++ rest)) (word 5 (moment_words m ++ rest)) ≡ true)
moment-fits Idle rest s = (refl, refl)
moment-fits (InEntry id start) rest s = (refl, refl)
moment-fits (InChunk id start n owed crc) rest s = (
  refl,
  all_hold
      (leb n 4294967295 ∷ leb owed 4294967295 ∷ leb crc 4294967295 ∷ [])
      (le-leb n 4294967295 s.0, (le-leb owed 4294967295 s.1, (le-leb crc 4294967295 s.2, tt))),
)

pub words-fit : (w : LogFileWriter) (rest : List ℕ) → Small w.moment → writer_fits (writer_words w ++ rest) ≡ true
unfolding writer_fits writer_words
words-fit w rest s = let k = known-fits w.last in let m = moment-fits w.moment rest s in rw (k, m.0, m.1)

-- ---- every call keeps them small

module _ (w : LogFileWriter) (s : Small w.moment) where
  begun-small : (n : ℕ) → n < 2 ^ 32 → (m : Moment) → Small m → Small (opened_chunk n m)
  begun-small n h Idle s = tt
  begun-small n h (InEntry id start) s = rw chunk_sum-none (omega arith)
  begun-small n h (InChunk id start k owed crc) s = s

  got-small : (bytes : List ℕ) (m : Moment) → Small m → Small (got bytes m)
  got-small bytes Idle s = tt
  got-small bytes (InEntry id start) s = tt
  got-small bytes (InChunk id start n owed crc) s = let h = crc_append-lt crc bytes in omega arith

  closed-small : (m : Moment) → Small (closed_chunk m)
  closed-small Idle = tt
  closed-small (InEntry id start) = tt
  closed-small (InChunk id start n owed crc) = tt

  after_small : (c : Call) → Argued c → Small (moment_after w c)
  unfolding moment_after
  after_small (begin_entry id) a = tt
  after_small (begin_chunk n) a = begun-small n a w.moment s
  after_small (write offered) a = got-small (take (owed_of w.moment) offered) w.moment s
  after_small finish a = closed-small w.moment
  after_small commit a = tt
  after_small rollback a = tt
  after_small (recycle id) a = tt
  after_small flush a = s
  after_small (synchronize t) a = s
  after_small (landing from) a = s

called-small : (m : Machine) (c : Call) → Argued c → Small m.writer.moment → Small (called m c).machine'.writer.moment
unfolding called acted
called-small m c a s =
    obeyed (λ (u : Machine). Small u.writer.moment) (refusal m c) m (acted m c) s (λ _. after_small m.writer s c a)

-- ---- the words of an accepted call

pub record Carries (c : Call) (state info image staging : List ℕ) (state' : List ℕ) : Type 0 where
  pub fits : writer_fits state' ≡ true
  pub same : writer_from state' info ≡ (called (machine (writer_from state info) image staging) c).machine'.writer

module _ (c : Call) (state info image staging answer : List ℕ) (argued : Argued c) (moving : moves c ≡ true) where
  carried : 16 ≤ length state → writer_fits state ≡ true → (n : ℕ) → n ≡ 0
      → Carries c state info image staging
      (cond (moves c) (obey n state (lay state 0 (writer_words (called (machine (writer_from state info) image staging) c).machine'.writer))) state)
  unfolding writer_from
  carried h f n z =
      let m = machine (writer_from state info) image staging in
      let w = (called m c).machine'.writer in
      let l = length-writer_words w in
      let i : take 255 info ≡ w.info = sym (called-kept m c).info in
      rw (moving, z)
      (record {
        fits = rw (lay-fits state 0 (writer_words w) (omega arith)) (words-fit w _ (called-small m c argued (small-words state info f)));
        same = next-sees state info w h i;
      })

  crossed-carries : (crossed c state info image staging answer).number ≡ 0 → Carries c state info image staging (crossed c state info image staging answer).state
  unfolding crossed
  crossed-carries =
      either Carried (enough (wanted c) state info answer) _ _
      (λ long. either Carried (writer_fits state) _ _ (λ fit z. carried (reach long) fit _ z) (λ _ z. absurd (omega arith)))
      (λ _ z. absurd (omega arith))
    where
      Carried : Left → Type 0
      Carried l = l.number ≡ 0 → Carries c state info image staging l.state

      reach : enough (wanted c) state info answer ≡ true → 16 ≤ length state
      reach e = let z = every (leb 16 (length state) ∷ leb 255 (length info) ∷ leb (wanted c) (length answer) ∷ []) e in omega (arith, leb-true)

  pub next-call : (s i g a : List ℕ) → WriterAllows c state info image staging answer 0 s i g a → Carries c state info image staging s
  next-call s i g a e = rw (ap (λ (l : Left). l.state) e) (crossed-carries (sym (ap (λ (l : Left). l.number) e)))
