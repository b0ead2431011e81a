-- After so many turns the register has gone through so many steps.
use Rattle.std.proofs.Common.{◌≡◌}
use Rattle.std.specs.Int.Bits.{bit_xor}
use Rattle.crc32c.specs.Crc.{steps}
use Rattle.crc32c.proofs.byte_step.Given as goal

abbrev pub invariant-loop : goal.invariant-loop
invariant-loop l = l.shifted ≡ steps l.counter (bit_xor l.fn.register l.fn.byte)
