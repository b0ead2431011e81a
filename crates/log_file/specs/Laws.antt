-- What `laws` promises of every writer.
use Rattle.std.specs.Prelude.{ℕ, ◌≡◌, true, List, length, Bool, Option, Result}
use Rattle.std.specs.declared.io.SeekFrom.{SeekFrom}
use Rattle.lists.specs.Answers.{number_of, refused}
use Rattle.entry.specs.declared.Refusal.{Refusal}
use Rattle.log_file.specs.declared.LogFileWriter.{LogFileWriter}
use Rattle.log_file.specs.declared.calls.Call as code
use Rattle.log_file.specs.State.{Machine, machine, valid}
use Rattle.log_file.specs.Calls.{Call, called, after}
use Rattle.log_file.specs.Promises.{BeginEntryAllows, BeginChunkAllows, WriteAllows, FinishAllows, CommitAllows, RollbackAllows, RecycleAllows, FlushAllows, SynchronizeAllows, SeekAllows}
use Rattle.log_file.specs.Step.{StepAllows}
use Rattle.log_file.specs.Opening.{Terms, OpenAllows, opened, blank}
use Rattle.log_file.specs.PromisesLaws.{Same}
use Rattle.log_file.specs.Reads.{PositionAllows, BufferPositionAllows, IsSynchronizedAllows, LastEntryIdAllows}
use Rattle.log_file.specs.History.{History, fresh, told, next, tellable}
use Rattle.log_file.specs.Shows.{Shows}

abbrev pub RefusedCallsChangeNothing : Type 0
RefusedCallsChangeNothing = (m : Machine) (c : Call) → (number_of (called m c).answer ≡ 0 → ⊥) → (called m c).machine' ≡ m

abbrev pub ValidStaysValid : Type 0
ValidStaysValid = (m : Machine) (c : Call) → valid m ≡ true → valid (called m c).machine' ≡ true

abbrev pub BlankIsRefused : Type 0
BlankIsRefused = (image staging : List ℕ) (c : Call) → called (machine blank image staging) c ≡ after (refused 12) (machine blank image staging)

-- what a promise allows is one answer, with one writer and one content of the buffers
abbrev pub OneAnswer : {A : Type 0} → (Result A Refusal → LogFileWriter → (image staging : List ℕ) → Type 0) → Type 0
OneAnswer {A = A} P =
    (r r' : Result A Refusal) (v v' : LogFileWriter) (i i' s s' : List ℕ) → P r v i s → P r' v' i' s' → Same r r' v v' i i' s s'

pub record CallsHaveOneAnswer : Type 0 where
  pub begin_entry : (w : LogFileWriter) (image staging : List ℕ) (id : ℕ) → OneAnswer (λ r v i s. BeginEntryAllows w image staging id r v i s)
  pub begin_chunk : (w : LogFileWriter) (image staging : List ℕ) (n : ℕ) → OneAnswer (λ r v i s. BeginChunkAllows w image staging n r v i s)
  pub write : (w : LogFileWriter) (image staging : List ℕ) (offered : List ℕ) → OneAnswer (λ r v i s. WriteAllows w image staging offered r v i s)
  pub finish : (w : LogFileWriter) (image staging : List ℕ) → OneAnswer (λ r v i s. FinishAllows w image staging r v i s)
  pub commit : (w : LogFileWriter) (image staging : List ℕ) → OneAnswer (λ r v i s. CommitAllows w image staging r v i s)
  pub rollback : (w : LogFileWriter) (image staging : List ℕ) → OneAnswer (λ r v i s. RollbackAllows w image staging r v i s)
  pub recycle : (w : LogFileWriter) (image staging : List ℕ) (id : ℕ) → OneAnswer (λ r v i s. RecycleAllows w image staging id r v i s)
  pub flush : (w : LogFileWriter) (image staging : List ℕ) → OneAnswer (λ r v i s. FlushAllows w image staging r v i s)
  pub synchronize : (w : LogFileWriter) (image staging : List ℕ) (t : ℕ) → OneAnswer (λ r v i s. SynchronizeAllows w image staging t r v i s)
  pub seek : (w : LogFileWriter) (image staging : List ℕ) (from : SeekFrom) (r r' : Result ℕ Refusal)
      → SeekAllows w image staging from r → SeekAllows w image staging from r' → r ≡ r'
  pub step : (w : LogFileWriter) (image staging : List ℕ) (call : code.Call) → OneAnswer (λ r v i s. StepAllows w image staging call r v i s)

abbrev pub OpeningHasOneAnswer : Type 0
OpeningHasOneAnswer = (o : Terms) (l f : ℕ) (image staging : List ℕ) → OneAnswer (λ r v i s. OpenAllows o l f image staging r v i s)

pub record ReadsHaveOneAnswer : Type 0 where
  pub position : (w : LogFileWriter) (r r' : Result ℕ Refusal) → PositionAllows w r → PositionAllows w r' → r ≡ r'
  pub buffer_position : (w : LogFileWriter) (r r' : Result ℕ Refusal) → BufferPositionAllows w r → BufferPositionAllows w r' → r ≡ r'
  pub is_synchronized : (w : LogFileWriter) (r r' : Result Bool Refusal) → IsSynchronizedAllows w r → IsSynchronizedAllows w r' → r ≡ r'
  pub last_entry_id : (w : LogFileWriter) (r r' : Result (Option ℕ) Refusal) → LastEntryIdAllows w r → LastEntryIdAllows w r' → r ≡ r'

-- a fresh opening shows the fresh history; a writer that shows a history answers what the history tells, and after any call shows the next one
pub record WritersShowTheirHistory : Type 0 where
  pub begins : (o : Terms) (f : ℕ) (image staging : List ℕ) → number_of (opened o 0 f image staging).answer ≡ 0
      → Shows (length image) (opened o 0 f image staging).machine' (fresh o.info o.id o.last)
  pub answers : (n : ℕ) (m : Machine) (h : History) (c : Call) → Shows n m h → tellable c ≡ true → (called m c).answer ≡ told n h c
  pub goes_on : (n : ℕ) (m : Machine) (h : History) (c : Call) → Shows n m h → Shows n (called m c).machine' (next n h c)
