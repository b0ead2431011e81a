-- Any two answers that a public call's promise allows are equal, with the writers and buffers that they leave.
use Rattle.std.specs.Prelude.{ℕ, ◌≡◌, refl, Bool, true, false, List, [], ◌∷◌, Result, ◌||◌, eqb, not, length}
use Rattle.std.specs.declared.io.SeekFrom.{SeekFrom}
use Rattle.std.proofs.Common.{arith, ap, sym, ◌∙◌}
use Rattle.lists.specs.Answers.{Answer, number_of, Check, ◌⇒◌, first}
use Rattle.entry.specs.declared.ChunkRecord.{ChunkRecord}
use Rattle.entry.specs.declared.Refusal.{Refusal}
use Rattle.entry.specs.Refusal.{answer_of}
use Rattle.entry.specs.RefusalLaws.{answered_one}
use Rattle.log_file.specs.declared.LogFileWriter.{LogFileWriter}
use Rattle.log_file.specs.declared.entries.CommittedEntry.{CommittedEntry}
use Rattle.log_file.specs.State.{Machine, machine, valid}
use Rattle.log_file.specs.Calls.{Call, begin_entry, begin_chunk, write, finish, commit, rollback, recycle, flush, synchronize, landing, checks, refusal, Called, after, called}
use Rattle.log_file.specs.CallsLaws.{number-called}
use Rattle.log_file.specs.Promises.{no_values, one_value, chunk_values, entry_values, BeginEntryAllows, BeginChunkAllows, WriteAllows, FinishAllows, CommitAllows, RollbackAllows, RecycleAllows, FlushAllows, SynchronizeAllows, SeekAllows}
use Rattle.log_file.specs.Opening.{Terms, open_checks, open_refusal, OpenAllows}
use Rattle.log_file.specs.OpeningLaws.{number-opened}

-- ---- what is reported tells what was given

none_one : (x y : Unit {0}) → no_values x ≡ no_values y → x ≡ y
none_one x y e = refl

number_one : (x y : ℕ) → one_value x ≡ one_value y → x ≡ y
number_one x y e = cc

chunk_one : (r q : ChunkRecord) → chunk_values r ≡ chunk_values q → r ≡ q
chunk_one r q e =
    let f : r.position.file_id ≡ q.position.file_id = cc in
    let o : r.position.offset ≡ q.position.offset = cc in
    let c : r.crc ≡ q.crc = cc in
    let l : r.length ≡ q.length = cc in
    λ i. record { position = record { file_id = f i; offset = o i }; crc = c i; length = l i }

entry_one : (r q : CommittedEntry) → entry_values r ≡ entry_values q → r ≡ q
entry_one r q e =
    let d : r.id ≡ q.id = cc in
    let p : r.position ≡ q.position = cc in
    λ i. record { id = d i; position = p i }

-- ---- answers that say the same are the same, but for 9, which does not say what was cut

answered-one : (a b : Result (Unit {0}) Refusal) → answer_of no_values a ≡ answer_of no_values b → (number_of (answer_of no_values a) ≡ 9 → ⊥) → a ≡ b
answered-one = answered_one no_values none_one

written_one : (a b : Result ℕ Refusal) → answer_of one_value a ≡ answer_of one_value b → (number_of (answer_of one_value a) ≡ 9 → ⊥) → a ≡ b
written_one = answered_one one_value number_one

finished-one : (a b : Result ChunkRecord Refusal) → answer_of chunk_values a ≡ answer_of chunk_values b → (number_of (answer_of chunk_values a) ≡ 9 → ⊥) → a ≡ b
finished-one = answered_one chunk_values chunk_one

committed-one : (a b : Result CommittedEntry Refusal) → answer_of entry_values a ≡ answer_of entry_values b → (number_of (answer_of entry_values a) ≡ 9 → ⊥) → a ≡ b
committed-one = answered_one entry_values entry_one

-- ---- no writer's row has the number 9

abbrev says_nine : List Check → Bool
says_nine [] = false
says_nine ((bad ⇒ n) ∷ row) = eqb n 9 || says_nine row

true_false : true ≡ false → ⊥
true_false e = let z : ◌≡◌ {A = ℕ} 0 1 = cc in omega arith

rest : (a : Bool) {b : Bool} → (a || b) ≡ false → b ≡ false
rest true e = absurd (true_false e)
rest false e = e

no_nine : (row : List Check) → says_nine row ≡ false → first row ≡ 9 → ⊥
no_nine [] e z = omega arith
no_nine ((true ⇒ n) ∷ row) e z = let f : (eqb n 9 || says_nine row) ≡ true = rw z in absurd (true_false (sym f ∙ e))
no_nine ((false ⇒ n) ∷ row) e z = no_nine row (rest (eqb n 9) e) z

no-row-nine : (w : LogFileWriter) (c : Call) → says_nine (checks w c) ≡ false
unfolding checks
no-row-nine w (begin_entry id) = refl
no-row-nine w (begin_chunk n) = refl
no-row-nine w (write offered) = refl
no-row-nine w finish = refl
no-row-nine w commit = refl
no-row-nine w rollback = refl
no-row-nine w (recycle id) = refl
no-row-nine w flush = refl
no-row-nine w (synchronize t) = refl
no-row-nine w (landing from) = refl

pub call_no_nine : (m : Machine) (c : Call) → refusal m c ≡ 9 → ⊥
unfolding refusal
call_no_nine m c = no_nine ((not (valid m) ⇒ 12) ∷ checks m.writer c) (no-row-nine m.writer c)

-- ---- what two results of one promise have in common: answer, writer, buffers

pub record Same {R : Type 0} (r r' : R) (w w' : LogFileWriter) (image image' staging staging' : List ℕ) : Type 0 where
  pub result : r ≡ r'
  pub writer_same : w ≡ w'
  pub image_same : image ≡ image'
  pub staging_same : staging ≡ staging'

module _ {a a' : Answer} {w w' : LogFileWriter} {i i' s s' : List ℕ} (e : after a (machine w i s) ≡ after a' (machine w' i' s')) where
  the-answer : a ≡ a'
  the-answer = ap (λ (c : Called). c.answer) e

  the-writer : w ≡ w'
  the-writer = ap (λ (c : Called). c.machine'.writer) e

  the-image : i ≡ i'
  the-image = ap (λ (c : Called). c.machine'.image) e

  the-staging : s ≡ s'
  the-staging = ap (λ (c : Called). c.machine'.staging) e

  pub same_by : {R : Type 0} (r r' : R) → r ≡ r' → Same r r' w w' i i' s s'
  same_by r r' h = record { result = h; writer_same = the-writer; image_same = the-image; staging_same = the-staging }

module _ (v v' : LogFileWriter) (i i' s s' : List ℕ) where
  -- a result that reports nothing
  plainly : (r r' : Result (Unit {0}) Refusal) → after (answer_of no_values r) (machine v i s) ≡ after (answer_of no_values r') (machine v' i' s')
      → (number_of (answer_of no_values r) ≡ 9 → ⊥) → Same r r' v v' i i' s s'
  plainly r r' e h = same_by e r r' (answered-one r r' (the-answer e) h)

  pub open-one-answer : (o : Terms) (l f : ℕ) (image staging : List ℕ) (r r' : Result (Unit {0}) Refusal)
      → OpenAllows o l f image staging r v i s → OpenAllows o l f image staging r' v' i' s' → Same r r' v v' i i' s s'
  unfolding open_refusal
  open-one-answer o l f image staging r r' x y =
      plainly r r' (x ∙ sym y) (λ z. no_nine (open_checks o.preallocate (length o.info) l f (length image) (length staging)) refl
      (sym (number-opened o l f image staging) ∙ sym (ap number_of (ap (λ (c : Called). c.answer) x)) ∙ z))

module _ (w : LogFileWriter) (image staging : List ℕ) (v v' : LogFileWriter) (i i' s s' : List ℕ) where
  called-one : {A : Type 0} (values : A → List ℕ) (c : Call) (r r' : Result A Refusal)
      → (answer_of values r ≡ answer_of values r' → (number_of (answer_of values r) ≡ 9 → ⊥) → r ≡ r')
      → after (answer_of values r) (machine v i s) ≡ called (machine w image staging) c
      → after (answer_of values r') (machine v' i' s') ≡ called (machine w image staging) c → Same r r' v v' i i' s s'
  called-one values c r r' one x y =
      let m = machine w image staging in
      let e = x ∙ sym y in
      same_by e r r' (one (the-answer e) (λ z. call_no_nine m c (sym (number-called m c) ∙ sym (ap (λ (d : Called). number_of d.answer) x) ∙ z)))

  pub begin-entry-one-answer : (id : ℕ) (r r' : Result (Unit {0}) Refusal)
      → BeginEntryAllows w image staging id r v i s → BeginEntryAllows w image staging id r' v' i' s' → Same r r' v v' i i' s s'
  begin-entry-one-answer id r r' x y = called-one no_values (begin_entry id) r r' (answered-one r r') x y

  pub begin-chunk-one-answer : (n : ℕ) (r r' : Result (Unit {0}) Refusal)
      → BeginChunkAllows w image staging n r v i s → BeginChunkAllows w image staging n r' v' i' s' → Same r r' v v' i i' s s'
  begin-chunk-one-answer n r r' x y = called-one no_values (begin_chunk n) r r' (answered-one r r') x y

  pub write-one-answer : (offered : List ℕ) (r r' : Result ℕ Refusal)
      → WriteAllows w image staging offered r v i s → WriteAllows w image staging offered r' v' i' s' → Same r r' v v' i i' s s'
  write-one-answer offered r r' x y = called-one one_value (write offered) r r' (written_one r r') x y

  pub finish-one-answer : (r r' : Result ChunkRecord Refusal)
      → FinishAllows w image staging r v i s → FinishAllows w image staging r' v' i' s' → Same r r' v v' i i' s s'
  finish-one-answer r r' x y = called-one chunk_values finish r r' (finished-one r r') x y

  pub commit-one-answer : (r r' : Result CommittedEntry Refusal)
      → CommitAllows w image staging r v i s → CommitAllows w image staging r' v' i' s' → Same r r' v v' i i' s s'
  commit-one-answer r r' x y = called-one entry_values commit r r' (committed-one r r') x y

  pub rollback-one-answer : (r r' : Result (Unit {0}) Refusal)
      → RollbackAllows w image staging r v i s → RollbackAllows w image staging r' v' i' s' → Same r r' v v' i i' s s'
  rollback-one-answer r r' x y = called-one no_values rollback r r' (answered-one r r') x y

  pub recycle-one-answer : (id : ℕ) (r r' : Result (Unit {0}) Refusal)
      → RecycleAllows w image staging id r v i s → RecycleAllows w image staging id r' v' i' s' → Same r r' v v' i i' s s'
  recycle-one-answer id r r' x y = called-one no_values (recycle id) r r' (answered-one r r') x y

  pub flush-one-answer : (r r' : Result (Unit {0}) Refusal)
      → FlushAllows w image staging r v i s → FlushAllows w image staging r' v' i' s' → Same r r' v v' i i' s s'
  flush-one-answer r r' x y = called-one no_values flush r r' (answered-one r r') x y

  pub synchronize-one-answer : (t : ℕ) (r r' : Result (Unit {0}) Refusal)
      → SynchronizeAllows w image staging t r v i s → SynchronizeAllows w image staging t r' v' i' s' → Same r r' v v' i i' s s'
  synchronize-one-answer t r r' x y = called-one no_values (synchronize t) r r' (answered-one r r') x y

pub seek-one-answer : (w : LogFileWriter) (image staging : List ℕ) (from : SeekFrom) (r r' : Result ℕ Refusal)
    → SeekAllows w image staging from r → SeekAllows w image staging from r' → r ≡ r'
seek-one-answer w image staging from r r' x y =
    (called-one w image staging w w image image staging staging one_value (landing from) r r' (written_one r r') x y).result
