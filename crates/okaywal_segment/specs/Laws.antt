-- What `laws` promises of every call across the boundary.
use Rattle.std.specs.Prelude.{ℕ, ◌≡◌, true, false, List, [], ◌∷◌}
use Rattle.lists.specs.Lay.{lay}
use Rattle.log_file.specs.Calls as calls
use Rattle.log_file.specs.HistoryRanges.{Argued}
use Rattle.lists.specs.NumbersLaws.{Bytes}
use Rattle.segment_reader.specs.Calls as reader_calls
use Rattle.segment_reader.specs.Calls.{read_by}
use Rattle.segment_reader.specs.LedLaws.{Led}
use Rattle.okaywal_segment.specs.Steps.{enough, enough_to_read}
use Rattle.okaywal_segment.specs.Crossing.{moves, WriterAllows}
use Rattle.okaywal_segment.specs.CrossingLaws.{Same}
use Rattle.okaywal_segment.specs.CarryLaws.{Carries}
use Rattle.okaywal_segment.specs.ReaderWords.{reader_from}
use Rattle.okaywal_segment.specs.ReaderCrossing.{moves as reader_moves, passes, ReaderAllows}
use Rattle.okaywal_segment.specs.ReaderCrossingLaws.{Same as SameRead}
use Rattle.okaywal_segment.specs.ReaderCarryLaws.{Holds}
use Rattle.okaywal_segment.specs.OpeningCrossing.{Request, OpenAllows}
use Rattle.okaywal_segment.specs.OpeningLaws.{Zeros}
use Rattle.okaywal_segment.specs.ReaderPromises.{OpenAllows as ReaderOpenAllows}

pub record RefusalsChangeNothing : Type 0 where
  pub of_writers : (c : calls.Call) (state info image staging answer : List ℕ) (n : ℕ) (s i g a : List ℕ)
      → WriterAllows c state info image staging answer n s i g a → (n ≡ 0 → ⊥) → (s ≡ state) × (i ≡ image) × (g ≡ staging)
  pub of_readers : (c : reader_calls.Call) (state image answer : List ℕ) (n : ℕ) (s a : List ℕ)
      → ReaderAllows c state image answer n s a → passes n ≡ false → s ≡ state

pub record CrossingsHaveOneAnswer : Type 0 where
  pub of_writers : (c : calls.Call) (state info image staging answer : List ℕ) (n n' : ℕ) (s s' i i' g g' a a' : List ℕ)
      → WriterAllows c state info image staging answer n s i g a → WriterAllows c state info image staging answer n' s' i' g' a'
      → Same n n' s s' i i' g g' a a'
  pub of_readers : (c : reader_calls.Call) (state image answer : List ℕ) (n n' : ℕ) (s s' a a' : List ℕ)
      → ReaderAllows c state image answer n s a → ReaderAllows c state image answer n' s' a' → SameRead n n' s s' a a'

pub record RefusedOpeningsLeaveZeros : Type 0 where
  pub of_writers : (state info image staging : List ℕ) (q : Request) → enough 0 state info [] ≡ true → (n : ℕ) (s v i g : List ℕ)
      → OpenAllows state info image staging q n s v i g → (n ≡ 0 → ⊥) → Zeros state info image staging s v i g
  pub of_readers : (state image : List ℕ) (file : ℕ) → enough_to_read 0 state [] ≡ true → (n : ℕ) (s : List ℕ)
      → ReaderOpenAllows state image file n s → (n ≡ 0 → ⊥) → s ≡ lay state 0 (0 ∷ 0 ∷ 0 ∷ 0 ∷ 0 ∷ 3 ∷ 0 ∷ 0 ∷ 0 ∷ 0 ∷ [])

-- a writer's call that moves, with arguments in their ranges; a reader's over an image of bytes, where an opening led to the reader
pub record TheNextCallSeesTheState : Type 0 where
  pub of_writers : (c : calls.Call) (state info image staging answer : List ℕ) → Argued c → moves c ≡ true → (s i g a : List ℕ)
      → WriterAllows c state info image staging answer 0 s i g a → Carries c state info image staging s
  pub of_readers : (c : reader_calls.Call) (state image answer : List ℕ) → Bytes image → reader_moves c ≡ true → Led image (reader_from state)
      → (n : ℕ) (s a : List ℕ) → ReaderAllows c state image answer n s a → passes n ≡ true → Holds image s (read_by c (reader_from state) image).reader
