-- One word passed over.
use Rattle.std.proofs.Common.{◌≡◌, ◌+◌, ◌-◌, arith}
use Rattle.text.proofs.Places.{words-go-on}
use Rattle.text.proofs.word_start.Goals as goal

pub loop-preserved : goal.loop-preserved
loop-preserved c =
    let left : c.args.k - (c.loop.counter + 1) ≡ c.args.k - c.loop.counter - 1 = omega arith in
    let line = c.args.line.now in
    (c.next_word-at.ensures.0, rw left (words-go-on line (c.args.k - c.loop.counter) c.loop.at c.next_word-at.result (omega arith) c.next_word-at.ensures.1 c.loop.invariant.1))
