-- What every reader's call across the boundary keeps: any two outcomes that are allowed are equal; a refusal other than 9 and 10 changes no state word;
-- words past those that are named stay.
use Rattle.std.specs.Prelude.{ℕ, ◌≡◌, refl, Bool, cond, List, replicate}
use Rattle.std.proofs.Common.{arith, sym, ◌∙◌}
use Rattle.std.proofs.Math.Path.{ap}
use Rattle.std.proofs.Math.Bool.{false}
use Rattle.std.proofs.Math.ListN.{drop}
use Rattle.lists.specs.Lay.{lay}
use Rattle.lists.specs.LayLaws.{drop-lay}
use Rattle.lists.specs.Answers.{number_of}
use Rattle.lists.specs.ChoiceLaws.{either}
use Rattle.segment_reader.specs.Calls.{Call, Step, answer_of, read_by}
use Rattle.okaywal_segment.specs.Words.{answer_words}
use Rattle.okaywal_segment.specs.ReaderWords.{reader_words, reader_from, reader_fits}
use Rattle.okaywal_segment.specs.ReaderWordsLaws.{length-reader_words}
use Rattle.okaywal_segment.specs.Steps.{enough_to_read}
use Rattle.okaywal_segment.specs.CrossingLaws.{length-answer_words}
use Rattle.okaywal_segment.specs.ReaderCrossing.{Read, read, wanted, moves, passes, restated, handed, crossed, ReaderAllows}

-- ---- one answer: the number and every slice

pub record Same (n n' : ℕ) (state state' answer answer' : List ℕ) : Type 0 where
  pub number_same : n ≡ n'
  pub state_same : state ≡ state'
  pub answer_same : answer ≡ answer'

pub same_read : {n n' : ℕ} {s s' a a' : List ℕ} → read n s a ≡ read n' s' a' → Same n n' s s' a a'
same_read e =
    record {
      number_same = ap (λ (l : Read). l.number) e;
      state_same = ap (λ (l : Read). l.state) e;
      answer_same = ap (λ (l : Read). l.answer) e;
    }

module _ (c : Call) (state image answer : List ℕ) where
  pub one_answer : (n n' : ℕ) (s s' a a' : List ℕ) → ReaderAllows c state image answer n s a → ReaderAllows c state image answer n' s' a' → Same n n' s s' a a'
  one_answer n n' s s' a a' p q = same_read (p ∙ sym q)

  -- ---- a refusal that moves nothing

  crossed-keeps : passes (crossed c state image answer).number ≡ false → (crossed c state image answer).state ≡ state
  unfolding crossed
  crossed-keeps =
      either Held (enough_to_read (wanted c) state answer) _ _ (λ _. either Held (reader_fits state) _ _ (λ _. made (read_by c (reader_from state) image)) (λ _ h. refl)) (λ _ h. refl)
    where
      Held : Read → Type 0
      Held l = passes l.number ≡ false → l.state ≡ state

      made : (s : Step) → Held (handed c state answer s)
      made s h =
          either (λ (l : List ℕ). l ≡ state) (moves c) _ state (λ _. ap (λ (b : Bool). cond b (lay state 0 (reader_words s.reader)) state) h) (λ _. refl)

  -- 12 and 6, and every other number but 0, 9 and 10
  pub refusal-changes-nothing : (n : ℕ) (s a : List ℕ) → ReaderAllows c state image answer n s a → passes n ≡ false → s ≡ state
  refusal-changes-nothing n s a e h =
      ap (λ (l : Read). l.state) e ∙ crossed-keeps (ap (λ (l : Read). passes l.number) (sym e) ∙ h)

  -- ---- words past those that are named stay

  Tails : Read → Type 0
  Tails l = (drop 10 l.state ≡ drop 10 state) × (drop 4 l.answer ≡ drop 4 answer)

  state-tail : (s : Step) → drop 10 (restated c state s) ≡ drop 10 state
  state-tail s =
      either (λ (l : List ℕ). drop 10 l ≡ drop 10 state) (moves c) _ state
      (λ _. either (λ (l : List ℕ). drop 10 l ≡ drop 10 state) (passes (number_of (answer_of s.reply))) _ state (λ _. new) (λ _. refl)) (λ _. refl)
    where
      new : drop 10 (lay state 0 (reader_words s.reader)) ≡ drop 10 state
      new = let e = length-reader_words s.reader in drop-lay state 0 (reader_words s.reader) 10 (omega arith)

  crossed-tails : Tails (crossed c state image answer)
  unfolding crossed Tails
  crossed-tails =
      either Tails (enough_to_read (wanted c) state answer) _ _
      (λ _. either Tails (reader_fits state) _ _ (λ _. made (read_by c (reader_from state) image)) (λ _. (refl, drop-lay answer 0 (replicate 4 0) 4 (omega arith))))
      (λ _. (refl, refl))
    where
      made : (s : Step) → Tails (handed c state answer s)
      made s = let e = length-answer_words (answer_of s.reply) in (state-tail s, drop-lay answer 0 (answer_words (answer_of s.reply)) 4 (omega arith))

  pub tails-stay : (n : ℕ) (s a : List ℕ) → ReaderAllows c state image answer n s a → (drop 10 s ≡ drop 10 state) × (drop 4 a ≡ drop 4 answer)
  unfolding Tails
  tails-stay n s a e = (ap (λ (l : Read). drop 10 l.state) e ∙ crossed-tails.0, ap (λ (l : Read). drop 4 l.answer) e ∙ crossed-tails.1)
