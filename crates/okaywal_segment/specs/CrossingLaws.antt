-- What every writer call across the boundary keeps: any two outcomes that are allowed are equal; a refusal changes no state word and no byte of a
-- buffer; words past those that are named stay.
use Rattle.std.specs.Prelude.{ℕ, zero, suc, ◌≤◌, ◌≡◌, refl, List, length, replicate}
use Rattle.std.proofs.Common.{arith, sym, ◌∙◌, length-take}
use Rattle.std.proofs.Math.Path.{ap}
use Rattle.std.proofs.Math.ListN.{drop}
use Rattle.lists.specs.Lay.{lay}
use Rattle.lists.specs.LayLaws.{drop-lay}
use Rattle.lists.specs.Answers.{Answer, accepted, refused, number_of, obey}
use Rattle.lists.specs.ChoiceLaws.{either, obeyed}
use Rattle.log_file.specs.State.{Machine, machine}
use Rattle.log_file.specs.Calls.{Call, Called, called}
use Rattle.log_file.specs.CallsLaws.{refused-keeps}
use Rattle.okaywal_segment.specs.Words.{answer_words}
use Rattle.okaywal_segment.specs.WriterWords.{writer_words, writer_from, writer_fits}
use Rattle.okaywal_segment.specs.WriterWordsLaws.{length-writer_words}
use Rattle.okaywal_segment.specs.Steps.{enough}
use Rattle.okaywal_segment.specs.Crossing.{Left, left, wanted, moves, restated, handed, crossed, WriterAllows}

-- ---- one answer: the number and every slice

pub record Same (n n' : ℕ) (state state' image image' staging staging' answer answer' : List ℕ) : Type 0 where
  pub number_same : n ≡ n'
  pub state_same : state ≡ state'
  pub image_same : image ≡ image'
  pub staging_same : staging ≡ staging'
  pub answer_same : answer ≡ answer'

module _ (c : Call) (state info image staging answer : List ℕ) (n n' : ℕ) (s s' i i' g g' a a' : List ℕ) where
  pub one_answer : WriterAllows c state info image staging answer n s i g a → WriterAllows c state info image staging answer n' s' i' g' a'
      → Same n n' s s' i i' g g' a a'
  one_answer p q =
      let e = p ∙ sym q in
      record {
        number_same = ap (λ (l : Left). l.number) e;
        state_same = ap (λ (l : Left). l.state) e;
        image_same = ap (λ (l : Left). l.image) e;
        staging_same = ap (λ (l : Left). l.staging) e;
        answer_same = ap (λ (l : Left). l.answer) e;
      }

-- ---- a refusal changes nothing

pub record Keeps (state image staging : List ℕ) (l : Left) : Type 0 where
  pub state_kept : l.state ≡ state
  pub image_kept : l.image ≡ image
  pub staging_kept : l.staging ≡ staging

obey-stays : {A : Type 0} (n : ℕ) (stay go : A) → (n ≡ 0 → ⊥) → obey n stay go ≡ stay
obey-stays zero stay go h = absurd (h refl)
obey-stays (suc n) stay go h = refl

module _ (c : Call) (state info image staging answer : List ℕ) where
  state-stays : (r : Called) → (number_of r.answer ≡ 0 → ⊥) → restated c state r ≡ state
  state-stays r h = either (λ (l : List ℕ). l ≡ state) (moves c) _ state (λ _. obey-stays (number_of r.answer) state _ h) (λ _. refl)

  crossed-keeps : ((crossed c state info image staging answer).number ≡ 0 → ⊥) → Keeps state image staging (crossed c state info image staging answer)
  unfolding crossed
  crossed-keeps =
      either Held (enough (wanted c) state info answer) _ _ (λ _. either Held (writer_fits state) _ _ (λ _. made) (λ _ h. none)) (λ _ h. none)
    where
      Held : Left → Type 0
      Held l = (l.number ≡ 0 → ⊥) → Keeps state image staging l

      none : {a : List ℕ} → Keeps state image staging (left 12 state image staging a)
      none = record { state_kept = refl; image_kept = refl; staging_kept = refl }

      made : Held (handed c state answer (called (machine (writer_from state info) image staging) c))
      made h =
          let r = called (machine (writer_from state info) image staging) c in
          let e = refused-keeps (machine (writer_from state info) image staging) c h in
          record {
            state_kept = state-stays r h;
            image_kept = ap (λ (m : Machine). m.image) e;
            staging_kept = ap (λ (m : Machine). m.staging) e;
          }

  pub refusal-changes-nothing : (n : ℕ) (s i g a : List ℕ) → WriterAllows c state info image staging answer n s i g a → (n ≡ 0 → ⊥)
      → (s ≡ state) × (i ≡ image) × (g ≡ staging)
  refusal-changes-nothing n s i g a e h =
      let k = crossed-keeps (λ z. h (ap (λ (l : Left). l.number) e ∙ z)) in
      (ap (λ (l : Left). l.state) e ∙ k.state_kept, ap (λ (l : Left). l.image) e ∙ k.image_kept, ap (λ (l : Left). l.staging) e ∙ k.staging_kept)

-- ---- words past those that are named stay

pub length-answer_words : (a : Answer) → length (answer_words a) ≤ 4
length-answer_words (accepted values) = simp length-take (omega arith)
length-answer_words (refused n) = omega arith

module _ (c : Call) (state info image staging answer : List ℕ) where
  Tails : Left → Type 0
  Tails l = (drop 16 l.state ≡ drop 16 state) × (drop 4 l.answer ≡ drop 4 answer)

  state-tail : (r : Called) → drop 16 (restated c state r) ≡ drop 16 state
  state-tail r =
      either (λ (l : List ℕ). drop 16 l ≡ drop 16 state) (moves c) _ state (λ _. obeyed (λ (l : List ℕ). drop 16 l ≡ drop 16 state) (number_of r.answer) state _ refl (λ _. new)) (λ _. refl)
    where
      new : drop 16 (lay state 0 (writer_words r.machine'.writer)) ≡ drop 16 state
      new = let e = length-writer_words r.machine'.writer in drop-lay state 0 (writer_words r.machine'.writer) 16 (omega arith)

  crossed-tails : Tails (crossed c state info image staging answer)
  unfolding crossed Tails
  crossed-tails =
      either Tails (enough (wanted c) state info answer) _ _
      (λ _. either Tails (writer_fits state) _ _ (λ _. made (called (machine (writer_from state info) image staging) c)) (λ _. (refl, drop-lay answer 0 (replicate 4 0) 4 (omega arith))))
      (λ _. (refl, refl))
    where
      made : (r : Called) → Tails (handed c state answer r)
      made r = let e = length-answer_words r.answer in (state-tail r, drop-lay answer 0 (answer_words r.answer) 4 (omega arith))

  pub tails-stay : (n : ℕ) (s i g a : List ℕ) → WriterAllows c state info image staging answer n s i g a → (drop 16 s ≡ drop 16 state) × (drop 4 a ≡ drop 4 answer)
  unfolding Tails
  tails-stay n s i g a e =
      let t = crossed-tails in
      (ap (λ (l : Left). drop 16 l.state) e ∙ t.0, ap (λ (l : Left). drop 4 l.answer) e ∙ t.1)
