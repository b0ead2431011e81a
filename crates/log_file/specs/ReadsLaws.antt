-- Any two answers that a plain read may give are equal.
use Rattle.std.specs.Prelude.{ℕ, ◌≡◌, refl, Bool, true, false, cond, not, Option, Some, None, Result, List}
use Rattle.std.proofs.Common.{arith, sym, ap, ◌∙◌}
use Rattle.lists.specs.Answers.{number_of}
use Rattle.lists.specs.ChoiceLaws.{number-reply}
use Rattle.entry.specs.declared.Refusal.{Refusal}
use Rattle.entry.specs.Refusal.{answer_of}
use Rattle.entry.specs.RefusalLaws.{answered_one}
use Rattle.log_file.specs.declared.LogFileWriter.{LogFileWriter}
use Rattle.log_file.specs.State.{ruled}
use Rattle.log_file.specs.Promises.{one_value}
use Rattle.log_file.specs.Reads.{read, flag_values, last_values, PositionAllows, BufferPositionAllows, IsSynchronizedAllows, LastEntryIdAllows}

-- ---- what is reported tells what was given

one_number : (a b : ℕ) → one_value a ≡ one_value b → a ≡ b
one_number a b e = cc

one_flag : (a b : Bool) → flag_values a ≡ flag_values b → a ≡ b
one_flag true true e = refl
one_flag true false e = let z : ◌≡◌ {A = ℕ} 0 1 = cc in absurd (omega arith)
one_flag false true e = let z : ◌≡◌ {A = ℕ} 0 1 = cc in absurd (omega arith)
one_flag false false e = refl

one_last : (a b : Option ℕ) → last_values a ≡ last_values b → a ≡ b
one_last None None e = refl
one_last None (Some j) e = let z : ◌≡◌ {A = ℕ} 0 1 = cc in absurd (omega arith)
one_last (Some i) None e = let z : ◌≡◌ {A = ℕ} 0 1 = cc in absurd (omega arith)
one_last (Some i) (Some j) e = let z : i ≡ j = cc in ap (λ (k : ℕ). Some k) z

-- ---- answers that say the same are the same, but for 9, which does not say what was cut

number-one : (a b : Result ℕ Refusal) → answer_of one_value a ≡ answer_of one_value b → (number_of (answer_of one_value a) ≡ 9 → ⊥) → a ≡ b
number-one = answered_one one_value one_number

flag_one : (a b : Result Bool Refusal) → answer_of flag_values a ≡ answer_of flag_values b → (number_of (answer_of flag_values a) ≡ 9 → ⊥) → a ≡ b
flag_one = answered_one flag_values one_flag

last_one : (a b : Result (Option ℕ) Refusal) → answer_of last_values a ≡ answer_of last_values b → (number_of (answer_of last_values a) ≡ 9 → ⊥) → a ≡ b
last_one = answered_one last_values one_last

-- a plain read is refused with 12 alone
read-one : {A : Type 0} (values : A → List ℕ) (w : LogFileWriter) (vs : List ℕ) (r r' : Result A Refusal)
    → (answer_of values r ≡ answer_of values r' → (number_of (answer_of values r) ≡ 9 → ⊥) → r ≡ r')
    → answer_of values r ≡ read w vs → answer_of values r' ≡ read w vs → r ≡ r'
unfolding read
read-one values w vs r r' one e f = one (e ∙ sym f) (λ z. no_nine (ruled w) (sym (number-reply _ vs) ∙ sym (ap number_of e) ∙ z))
  where
    no_nine : (b : Bool) → ◌≡◌ {A = ℕ} (cond (not b) 12 0) 9 → ⊥
    no_nine true z = omega arith
    no_nine false z = omega arith

module _ (w : LogFileWriter) where
  pub position-one-answer : (r r' : Result ℕ Refusal) → PositionAllows w r → PositionAllows w r' → r ≡ r'
  position-one-answer r r' x y = read-one _ w _ r r' (number-one r r') x y

  pub buffer-position-one-answer : (r r' : Result ℕ Refusal) → BufferPositionAllows w r → BufferPositionAllows w r' → r ≡ r'
  buffer-position-one-answer r r' x y = read-one _ w _ r r' (number-one r r') x y

  pub is-synchronized-one-answer : (r r' : Result Bool Refusal) → IsSynchronizedAllows w r → IsSynchronizedAllows w r' → r ≡ r'
  is-synchronized-one-answer r r' x y = read-one _ w _ r r' (flag_one r r') x y

  pub last-entry-id-one-answer : (r r' : Result (Option ℕ) Refusal) → LastEntryIdAllows w r → LastEntryIdAllows w r' → r ≡ r'
  last-entry-id-one-answer r r' x y = read-one _ w _ r r' (last_one r r') x y
