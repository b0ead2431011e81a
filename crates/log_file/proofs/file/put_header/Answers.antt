-- What a write leaves of the room; without these two the search gives up.
use Rattle.std.proofs.Common.{arith, length, ◌+◌}
use Rattle.buffered.specs.Staging.{store, Room}
use Rattle.log_file.proofs.file.put_header.Goals as goal

pub write-requires : goal.write-requires
write-requires c = c.write_both.ensures.room _ c.requires.0

pub returns-clause-room : goal.returns-clause-room
returns-clause-room c =
    let a = c.args in
    let r : Room (store a.image.now a.staging.now a.file.now) (5 + (length a.info.now + 0)) = record { image = omega (arith, c.requires.0.image); staging = c.requires.0.staging } in
    c.write.ensures.room 0 (c.write_both.ensures.room _ r)
