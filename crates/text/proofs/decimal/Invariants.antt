-- Reading what is left behind what was read comes to reading all of it.
use Rattle.std.proofs.Common.{◌≡◌, ◌^◌, ◌<◌, drop}
use Rattle.text.specs.Text.{decimal}
use Rattle.text.specs.Digits.{decimal_from}
use Rattle.text.proofs.decimal.Given as goal

abbrev pub invariant-loop-byte : goal.invariant-loop-byte
invariant-loop-byte l = (l.number < 2 ^ 64) × (decimal_from l.number (drop l.byte-index l.text) ≡ decimal l.text)
