-- Storing what is left of `src` behind what is stored comes to storing all of it.
use Rattle.std.proofs.Common.{◌≡◌, ◌+◌, ◌≤◌, length, drop}
use Rattle.lists.specs.Lay.{lay}
use Rattle.lists.proofs.copy_at.Given as goal

abbrev pub invariant-loop-i : goal.invariant-loop-i
invariant-loop-i l = (l.i ≤ length l.src) × (lay l.dst (l.at + l.i) (drop l.i l.src) ≡ lay l.fn.dst l.at l.src)
