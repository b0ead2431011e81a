-- One turn, and the end, by the two lemmas of `Turns`.
use Rattle.std.proofs.Common.{arith}
use Rattle.lists.proofs.Turns.{goes_on, ends}
use Rattle.lists.proofs.copy_at.Goals as goal

pub loop-i-preserved : goal.loop-i-preserved
loop-i-preserved c = (omega arith, goes_on c.loop-i.dst c.args.at c.args.src.now c.loop-i.i _ c.loop-i-test.true (omega arith) c.loop-i.invariant.1)

pub returns : goal.returns
returns c = ends c.loop-i.dst c.args.at c.args.src.now c.loop-i.i c.loop-i-test.false c.loop-i.invariant.1
