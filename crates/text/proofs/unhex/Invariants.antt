-- Storing what is left of the bytes behind what is stored comes to storing all of them.
use Rattle.std.proofs.Common.{◌≡◌, drop}
use Rattle.lists.specs.Lay.{lay}
use Rattle.text.specs.Text.{fitting}
use Rattle.text.proofs.unhex.Given as goal

abbrev pub invariant-loop-i : goal.invariant-loop-i
invariant-loop-i l = lay l.out l.i (drop l.i (fitting l.s l.fn.out)) ≡ lay l.fn.out 0 (fitting l.s l.fn.out)
