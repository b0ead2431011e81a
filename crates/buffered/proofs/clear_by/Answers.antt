-- One turn, and the end, by the two lemmas of `Zeros`.
use Rattle.std.proofs.Common.{arith}
use Rattle.buffered.proofs.Zeros.{goes_on, ends}
use Rattle.buffered.proofs.clear_by.Goals as goal

pub loop-i-preserved : goal.loop-i-preserved
loop-i-preserved c =
    (omega arith, goes_on c.loop-i.image c.put.new.image c.args.at c.args.count c.loop-i.i c.min-k.result c.args.zeros.now (omega arith) (omega arith) c.requires.1 c.put.ensures c.loop-i.invariant.1)

pub returns : goal.returns
returns c = ends c.loop-i.image c.args.at c.args.count c.loop-i.i (omega arith) c.loop-i.invariant.1
