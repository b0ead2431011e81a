-- A turn that took a digit.
use Rattle.text.proofs.Numbers.{goes_on}
use Rattle.text.proofs.decimal.Goals as goal

pub loop-byte-preserved : goal.loop-byte-preserved
loop-byte-preserved c =
    let turn = c.loop-byte in
    goes_on c.args.text.now turn.number turn.byte-index turn.invariant.1 c.with_digit.ensures c.loop-byte-test.true c.in_ok-number.was
