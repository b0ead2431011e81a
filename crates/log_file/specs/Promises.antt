-- What each public call of a writer may answer and leave: `called`, with the call's answer in document 01's terms. The laws are in `PromisesLaws`.
use Rattle.std.specs.Prelude.{ℕ, ◌≡◌, List, [], ◌∷◌, Result}
use Rattle.std.specs.declared.io.SeekFrom.{SeekFrom}
use Rattle.lists.specs.Answers.{Answer}
use Rattle.entry.specs.declared.ChunkRecord.{ChunkRecord}
use Rattle.entry.specs.declared.Refusal.{Refusal}
use Rattle.entry.specs.Refusal.{answer_of}
use Rattle.log_file.specs.declared.LogFileWriter.{LogFileWriter}
use Rattle.log_file.specs.declared.entries.CommittedEntry.{CommittedEntry}
use Rattle.log_file.specs.State.{machine}
use Rattle.log_file.specs.Calls.{Call, begin_entry, begin_chunk, write, finish, commit, rollback, recycle, flush, synchronize, landing, after, called}

-- ---- what an accepted call reports, in document 01's values

abbrev pub no_values : Unit {0} → List ℕ
no_values done = []

abbrev pub one_value : ℕ → List ℕ
one_value n = n ∷ []

-- position, CRC, length
abbrev pub chunk_values : ChunkRecord → List ℕ
chunk_values c = c.position.file_id ∷ c.position.offset ∷ c.crc ∷ c.length ∷ []

-- id, logical position
abbrev pub entry_values : CommittedEntry → List ℕ
entry_values e = e.id ∷ e.position ∷ []

-- ---- a call on a writer with its buffers leaves an answer, a writer and its buffers

abbrev pub Allows : (w : LogFileWriter) (image staging : List ℕ) → Call → Answer → (w' : LogFileWriter) (image' staging' : List ℕ) → Type 0
Allows w image staging c answer w' image' staging' = after answer (machine w' image' staging') ≡ called (machine w image staging) c

abbrev pub BeginEntryAllows : LogFileWriter → (image staging : List ℕ) → (id : ℕ) → Result (Unit {0}) Refusal → LogFileWriter → (image' staging' : List ℕ) → Type 0
BeginEntryAllows w image staging id r w' image' staging' = Allows w image staging (begin_entry id) (answer_of no_values r) w' image' staging'

abbrev pub BeginChunkAllows : LogFileWriter → (image staging : List ℕ) → (n : ℕ) → Result (Unit {0}) Refusal → LogFileWriter → (image' staging' : List ℕ) → Type 0
BeginChunkAllows w image staging n r w' image' staging' = Allows w image staging (begin_chunk n) (answer_of no_values r) w' image' staging'

abbrev pub WriteAllows : LogFileWriter → (image staging : List ℕ) → (offered : List ℕ) → Result ℕ Refusal → LogFileWriter → (image' staging' : List ℕ) → Type 0
WriteAllows w image staging offered r w' image' staging' = Allows w image staging (write offered) (answer_of one_value r) w' image' staging'

abbrev pub FinishAllows : LogFileWriter → (image staging : List ℕ) → Result ChunkRecord Refusal → LogFileWriter → (image' staging' : List ℕ) → Type 0
FinishAllows w image staging r w' image' staging' = Allows w image staging finish (answer_of chunk_values r) w' image' staging'

abbrev pub CommitAllows : LogFileWriter → (image staging : List ℕ) → Result CommittedEntry Refusal → LogFileWriter → (image' staging' : List ℕ) → Type 0
CommitAllows w image staging r w' image' staging' = Allows w image staging commit (answer_of entry_values r) w' image' staging'

abbrev pub RollbackAllows : LogFileWriter → (image staging : List ℕ) → Result (Unit {0}) Refusal → LogFileWriter → (image' staging' : List ℕ) → Type 0
RollbackAllows w image staging r w' image' staging' = Allows w image staging rollback (answer_of no_values r) w' image' staging'

abbrev pub RecycleAllows : LogFileWriter → (image staging : List ℕ) → (id : ℕ) → Result (Unit {0}) Refusal → LogFileWriter → (image' staging' : List ℕ) → Type 0
RecycleAllows w image staging id r w' image' staging' = Allows w image staging (recycle id) (answer_of no_values r) w' image' staging'

abbrev pub FlushAllows : LogFileWriter → (image staging : List ℕ) → Result (Unit {0}) Refusal → LogFileWriter → (image' staging' : List ℕ) → Type 0
FlushAllows w image staging r w' image' staging' = Allows w image staging flush (answer_of no_values r) w' image' staging'

abbrev pub SynchronizeAllows : LogFileWriter → (image staging : List ℕ) → (t : ℕ) → Result (Unit {0}) Refusal → LogFileWriter → (image' staging' : List ℕ) → Type 0
SynchronizeAllows w image staging t r w' image' staging' = Allows w image staging (synchronize t) (answer_of no_values r) w' image' staging'

-- a landing leaves the writer and the buffers that it was given
abbrev pub SeekAllows : LogFileWriter → (image staging : List ℕ) → SeekFrom → Result ℕ Refusal → Type 0
SeekAllows w image staging from r = Allows w image staging (landing from) (answer_of one_value r) w image staging

-- ---- in plain words: nothing has changed

abbrev pub IsUnchanged : LogFileWriter → (image staging : List ℕ) → LogFileWriter → (image' staging' : List ℕ) → Type 0
IsUnchanged w image staging w' image' staging' = (w' ≡ w) × (image' ≡ image) × (staging' ≡ staging)
