-- Any two outcomes that a function of a reader allows are equal: the number, and every slice that it is lent.
use Rattle.std.specs.Prelude.{ℕ, List, []}
use Rattle.std.proofs.Common.{sym, ◌∙◌}
use Rattle.segment_reader.specs.Calls.{next_entry, next_chunk, crc_check, skip_rest, whole_entry, data_read}
use Rattle.okaywal_segment.specs.ReaderCrossingLaws.{Same, same_read, one_answer}
use Rattle.okaywal_segment.specs.ReaderPromises.{OpenAllows, EntryAllows, ChunkAllows, DataAllows, CheckCrcAllows, SkipAllows, WholeAllows}

module _ (state image answer : List ℕ) (n n' : ℕ) (s s' a a' : List ℕ) where
  pub entry-one-answer : EntryAllows state image answer n s a → EntryAllows state image answer n' s' a' → Same n n' s s' a a'
  entry-one-answer p q = one_answer next_entry state image answer n n' s s' a a' p q

  pub chunk-one-answer : ChunkAllows state image answer n s a → ChunkAllows state image answer n' s' a' → Same n n' s s' a a'
  chunk-one-answer p q = one_answer next_chunk state image answer n n' s s' a a' p q

  pub data-one-answer : (asked : ℕ) → DataAllows state image asked answer n s a → DataAllows state image asked answer n' s' a' → Same n n' s s' a a'
  data-one-answer asked p q = one_answer (data_read asked) state image answer n n' s s' a a' p q

  pub whole-one-answer : WholeAllows state image answer n s a → WholeAllows state image answer n' s' a' → Same n n' s s' a a'
  whole-one-answer p q = one_answer whole_entry state image answer n n' s s' a a' p q

-- the state stays
pub check-crc-one-answer : (state image answer : List ℕ) (n n' : ℕ) (a a' : List ℕ)
    → CheckCrcAllows state image answer n a → CheckCrcAllows state image answer n' a' → Same n n' state state a a'
check-crc-one-answer state image answer n n' a a' p q = one_answer crc_check state image answer n n' state state a a' p q

pub skip-one-answer : (state image : List ℕ) (n n' : ℕ) (s s' : List ℕ) → SkipAllows state image n s → SkipAllows state image n' s' → Same n n' s s' [] []
skip-one-answer state image n n' s s' p q = one_answer skip_rest state image [] n n' s s' [] [] p q

pub open-one-answer : (state image : List ℕ) (file n n' : ℕ) (s s' : List ℕ) → OpenAllows state image file n s → OpenAllows state image file n' s'
    → Same n n' s s' [] []
open-one-answer state image file n n' s s' p q = same_read (p ∙ sym q)
