-- As many as fit, and all of them stored.
use Rattle.std.proofs.Common.{◌≡◌, length, arith}
use Rattle.text.specs.Text.{fitting}
use Rattle.text.proofs.Pairs.{as_many, ends}
use Rattle.text.proofs.unhex.Goals as goal

pub returns : goal.returns
returns c =
    let s = c.args.s.now in
    let out = c.args.out.now in
    let e : c.min-n.result ≡ length (fitting s out) = as_many s out _ c.min-n.ensures in
    (e, ends s out c.loop-i.out c.loop-i.i c.loop-i.invariant (omega arith))
