-- There is room for the second write after the first.
use Rattle.std.proofs.Common.{arith}
use Rattle.buffered.proofs.Buffered.write_both.Goals as goal

pub write-requires-2 : goal.write-requires-2
write-requires-2 c = c.write.ensures.room _ c.requires

pub returns-clause-room : goal.returns-clause-room
returns-clause-room c n r = c.write-2.ensures.room n (c.write.ensures.room _ (record { image = omega arith; staging = r.staging }))
