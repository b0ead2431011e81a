-- What each function of a writer may return and leave in the slices that it is lent: `crossed`, at its call. A shared slice stays.
use Rattle.std.specs.Prelude.{ℕ, List, [], ℤ}
use Rattle.std.specs.declared.io.SeekFrom.TheVariants.{Start, End, Current}
use Rattle.log_file.specs.Calls.{begin_entry, begin_chunk, write, finish, commit, rollback, flush, recycle, synchronize, landing}
use Rattle.okaywal_segment.specs.Crossing.{WriterAllows}

-- ---- without an answer

abbrev pub BeginAllows : (state info image staging : List ℕ) (id : ℕ) → (number : ℕ) (state' image' staging' : List ℕ) → Type 0
BeginAllows state info image staging id number state' image' staging' = WriterAllows (begin_entry id) state info image staging [] number state' image' staging' []

abbrev pub BeginChunkAllows : (state info image staging : List ℕ) (n : ℕ) → (number : ℕ) (state' image' staging' : List ℕ) → Type 0
BeginChunkAllows state info image staging n number state' image' staging' = WriterAllows (begin_chunk n) state info image staging [] number state' image' staging' []

abbrev pub RollbackAllows : (state info image staging : List ℕ) → (number : ℕ) (state' image' staging' : List ℕ) → Type 0
RollbackAllows state info image staging number state' image' staging' = WriterAllows rollback state info image staging [] number state' image' staging' []

abbrev pub RecycleAllows : (state info image staging : List ℕ) (id : ℕ) → (number : ℕ) (state' image' staging' : List ℕ) → Type 0
RecycleAllows state info image staging id number state' image' staging' = WriterAllows (recycle id) state info image staging [] number state' image' staging' []

abbrev pub FlushAllows : (state info image staging : List ℕ) → (number : ℕ) (state' image' staging' : List ℕ) → Type 0
FlushAllows state info image staging number state' image' staging' = WriterAllows flush state info image staging [] number state' image' staging' []

abbrev pub SyncAllows : (state info image staging : List ℕ) (t : ℕ) → (number : ℕ) (state' image' staging' : List ℕ) → Type 0
SyncAllows state info image staging t number state' image' staging' = WriterAllows (synchronize t) state info image staging [] number state' image' staging' []

-- ---- with an answer

abbrev pub WriteAllows : (state info image staging offered answer : List ℕ) → (number : ℕ) (state' image' staging' answer' : List ℕ) → Type 0
WriteAllows state info image staging offered answer number state' image' staging' answer' = WriterAllows (write offered) state info image staging answer number state' image' staging' answer'

abbrev pub FinishAllows : (state info image staging answer : List ℕ) → (number : ℕ) (state' image' staging' answer' : List ℕ) → Type 0
FinishAllows state info image staging answer number state' image' staging' answer' = WriterAllows finish state info image staging answer number state' image' staging' answer'

abbrev pub CommitAllows : (state info image staging answer : List ℕ) → (number : ℕ) (state' image' staging' answer' : List ℕ) → Type 0
CommitAllows state info image staging answer number state' image' staging' answer' = WriterAllows commit state info image staging answer number state' image' staging' answer'

-- ---- landing places: state and buffers stay

abbrev pub LandStartAllows : (state info image staging : List ℕ) (place : ℕ) (answer : List ℕ) → (number : ℕ) (answer' : List ℕ) → Type 0
LandStartAllows state info image staging place answer number answer' = WriterAllows (landing (Start place)) state info image staging answer number state image staging answer'

abbrev pub LandEndAllows : (state info image staging : List ℕ) (offset : ℤ) (answer : List ℕ) → (number : ℕ) (answer' : List ℕ) → Type 0
LandEndAllows state info image staging offset answer number answer' = WriterAllows (landing (End offset)) state info image staging answer number state image staging answer'

abbrev pub LandCurrentAllows : (state info image staging : List ℕ) (offset : ℤ) (answer : List ℕ) → (number : ℕ) (answer' : List ℕ) → Type 0
LandCurrentAllows state info image staging offset answer number answer' = WriterAllows (landing (Current offset)) state info image staging answer number state image staging answer'
