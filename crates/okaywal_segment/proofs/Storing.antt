-- A copy from the first place on.
use Rattle.std.proofs.Common.{◌≡◌, ℕ, ◌≤◌, List, length, arith}
use borrow.Rule.Slice.PartMut.{put_mid}
use Rattle.lists.specs.Lay.{lay}
use Rattle.lists.proofs.Laid.{put_mid-lay}

pub stores : (d xs ys : List ℕ) (k : ℕ) → ys ≡ xs → length xs ≡ k → length xs ≤ length d → put_mid 0 k d ys ≡ lay d 0 xs
stores d xs ys k e n h = put_mid-lay d xs ys 0 k e n (omega arith)
