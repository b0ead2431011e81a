-- A writer with its buffers shows a history: equations, and one bound on an open chunk. What a writer that shows a history answers is in proofs/ShowsTells,
-- what it becomes in `ShowsLaws`.
use Rattle.std.specs.Prelude.{ℕ, ◌≤◌, ◌≡◌, true}
use Rattle.buffered.specs.Staging.{logical}
use Rattle.log_file.specs.State.{Machine, store_of, valid}
use Rattle.log_file.specs.Calls.{info_of}
use Rattle.log_file.specs.History.{History, bytes, moment_of, holds, is_to_hold}

-- n is the image size
pub record Shows (n : ℕ) (m : Machine) (h : History) : Type 0 where
  pub rules : valid m ≡ true
  pub size : m.writer.size ≡ n
  pub segment : logical (store_of m) ≡ bytes h
  pub id : m.writer.id ≡ h.id
  pub last : m.writer.last ≡ h.last
  pub info : info_of m.writer ≡ h.info
  pub moment : m.writer.moment ≡ moment_of h
  -- an open chunk holds no more than its n bytes
  pub holding : holds h.pending ≤ is_to_hold h.pending
