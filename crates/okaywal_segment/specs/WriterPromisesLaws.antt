-- Any two outcomes that a function's promise allows are equal: the number, and every slice that it is lent.
use Rattle.std.specs.Prelude.{ℕ, ◌≡◌, List, [], ℤ}
use Rattle.std.proofs.Common.{ap, sym, ◌∙◌}
use Rattle.crc32c.specs.Crc.{AppendAllows}
use Rattle.std.specs.declared.io.SeekFrom.TheVariants.{Start, End, Current}
use Rattle.log_file.specs.Calls.{begin_entry, begin_chunk, write, finish, commit, rollback, flush, recycle, synchronize, landing}
use Rattle.okaywal_segment.specs.CrossingLaws.{Same, one_answer}
use Rattle.okaywal_segment.specs.WriterPromises.{BeginAllows, BeginChunkAllows, WriteAllows, FinishAllows, CommitAllows, RollbackAllows, RecycleAllows, FlushAllows, SyncAllows, LandStartAllows, LandEndAllows, LandCurrentAllows}
use Rattle.okaywal_segment.specs.OpeningCrossing.{Request, Start as Opening, OpenAllows}
use Rattle.okaywal_segment.specs.Positions.{Stored, PositionWriteAllows, PositionReadAllows}

-- ---- without an answer

module _ (state info image staging : List ℕ) (n n' : ℕ) (s s' i i' g g' : List ℕ) where
  pub begin-one-answer : (id : ℕ) → BeginAllows state info image staging id n s i g → BeginAllows state info image staging id n' s' i' g' → Same n n' s s' i i' g g' [] []
  begin-one-answer id p q = one_answer (begin_entry id) state info image staging [] n n' s s' i i' g g' [] [] p q

  pub begin-chunk-one-answer : (k : ℕ) → BeginChunkAllows state info image staging k n s i g → BeginChunkAllows state info image staging k n' s' i' g' → Same n n' s s' i i' g g' [] []
  begin-chunk-one-answer k p q = one_answer (begin_chunk k) state info image staging [] n n' s s' i i' g g' [] [] p q

  pub rollback-one-answer : RollbackAllows state info image staging n s i g → RollbackAllows state info image staging n' s' i' g' → Same n n' s s' i i' g g' [] []
  rollback-one-answer p q = one_answer rollback state info image staging [] n n' s s' i i' g g' [] [] p q

  pub recycle-one-answer : (id : ℕ) → RecycleAllows state info image staging id n s i g → RecycleAllows state info image staging id n' s' i' g' → Same n n' s s' i i' g g' [] []
  recycle-one-answer id p q = one_answer (recycle id) state info image staging [] n n' s s' i i' g g' [] [] p q

  pub flush-one-answer : FlushAllows state info image staging n s i g → FlushAllows state info image staging n' s' i' g' → Same n n' s s' i i' g g' [] []
  flush-one-answer p q = one_answer flush state info image staging [] n n' s s' i i' g g' [] [] p q

  pub sync-one-answer : (t : ℕ) → SyncAllows state info image staging t n s i g → SyncAllows state info image staging t n' s' i' g' → Same n n' s s' i i' g g' [] []
  sync-one-answer t p q = one_answer (synchronize t) state info image staging [] n n' s s' i i' g g' [] [] p q

-- ---- with an answer

module _ (state info image staging answer : List ℕ) (n n' : ℕ) (s s' i i' g g' a a' : List ℕ) where
  pub write-one-answer : (offered : List ℕ) → WriteAllows state info image staging offered answer n s i g a → WriteAllows state info image staging offered answer n' s' i' g' a' → Same n n' s s' i i' g g' a a'
  write-one-answer offered p q = one_answer (write offered) state info image staging answer n n' s s' i i' g g' a a' p q

  pub finish-one-answer : FinishAllows state info image staging answer n s i g a → FinishAllows state info image staging answer n' s' i' g' a' → Same n n' s s' i i' g g' a a'
  finish-one-answer p q = one_answer finish state info image staging answer n n' s s' i i' g g' a a' p q

  pub commit-one-answer : CommitAllows state info image staging answer n s i g a → CommitAllows state info image staging answer n' s' i' g' a' → Same n n' s s' i i' g g' a a'
  commit-one-answer p q = one_answer commit state info image staging answer n n' s s' i i' g g' a a' p q

-- ---- landing places: state and buffers stay

module _ (state info image staging answer : List ℕ) (n n' : ℕ) (a a' : List ℕ) where
  pub land-start-one-answer : (z : ℕ) → LandStartAllows state info image staging z answer n a → LandStartAllows state info image staging z answer n' a' → Same n n' state state image image staging staging a a'
  land-start-one-answer z p q = one_answer (landing (Start z)) state info image staging answer n n' state state image image staging staging a a' p q

  pub land-end-one-answer : (z : ℤ) → LandEndAllows state info image staging z answer n a → LandEndAllows state info image staging z answer n' a' → Same n n' state state image image staging staging a a'
  land-end-one-answer z p q = one_answer (landing (End z)) state info image staging answer n n' state state image image staging staging a a' p q

  pub land-current-one-answer : (z : ℤ) → LandCurrentAllows state info image staging z answer n a → LandCurrentAllows state info image staging z answer n' a' → Same n n' state state image image staging staging a a'
  land-current-one-answer z p q = one_answer (landing (Current z)) state info image staging answer n n' state state image image staging staging a a' p q

-- ---- opening

pub open-one-answer : (state info image staging : List ℕ) (q : Request) (n n' : ℕ) (s s' v v' i i' g g' : List ℕ)
    → OpenAllows state info image staging q n s v i g → OpenAllows state info image staging q n' s' v' i' g'
    → (n ≡ n') × (s ≡ s') × (v ≡ v') × (i ≡ i') × (g ≡ g')
open-one-answer state info image staging q n n' s s' v v' i i' g g' x y =
    let e = x ∙ sym y in (
      ap (λ (o : Opening). o.number) e,
      ap (λ (o : Opening). o.state) e,
      ap (λ (o : Opening). o.info) e,
      ap (λ (o : Opening). o.image) e,
      ap (λ (o : Opening). o.staging) e,
    )

-- ---- the sum and positions

pub append-one-answer : (crc : ℕ) (bytes : List ℕ) (n n' : ℕ) → AppendAllows crc bytes n → AppendAllows crc bytes n' → n ≡ n'
append-one-answer crc bytes n n' x y = x ∙ sym y

pub position-write-one-answer : (file_id offset : ℕ) (buffer : List ℕ) (n n' : ℕ) (b b' : List ℕ)
    → PositionWriteAllows file_id offset buffer n b → PositionWriteAllows file_id offset buffer n' b' → (n ≡ n') × (b ≡ b')
position-write-one-answer file_id offset buffer n n' b b' x y =
    (ap (λ (r : Stored). r.number) (x ∙ sym y), ap (λ (r : Stored). r.slice) (x ∙ sym y))

pub position-read-one-answer : (buffer answer : List ℕ) (n n' : ℕ) (a a' : List ℕ)
    → PositionReadAllows buffer answer n a → PositionReadAllows buffer answer n' a' → (n ≡ n') × (a ≡ a')
position-read-one-answer buffer answer n n' a a' x y =
    (ap (λ (r : Stored). r.number) (x ∙ sym y), ap (λ (r : Stored). r.slice) (x ∙ sym y))
