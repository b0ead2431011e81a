-- Ways out of an opening, over plain variables: too short, last_known above 1.
use Rattle.std.proofs.Common.{◌≡◌, ℕ, ◌<◌, true, false, List, [], replicate, lt-ltb}
use Rattle.lists.specs.Lay.{lay}
use Rattle.okaywal_segment.specs.WriterWordsLaws.{blank-words}
use Rattle.okaywal_segment.specs.Steps.{enough}
use Rattle.okaywal_segment.specs.OpeningCrossing.{Request, opening_of, started, OpenAllows}

module _ (state info image staging : List ℕ) (q : Request) where
  pub too_short : enough 0 state info [] ≡ false → OpenAllows state info image staging q 12 state info image staging
  unfolding started
  too_short e = rw e

  pub not_known : enough 0 state info [] ≡ true → 1 < q.known → (state' info' : List ℕ) → state' ≡ lay state 0 (replicate 16 0)
      → info' ≡ lay info 0 (replicate 255 0) → OpenAllows state info image staging q 12 state' info' image staging
  unfolding started opening_of
  not_known e h state' info' es ei = rw (e, lt-ltb 1 q.known h, blank-words, es, ei)
