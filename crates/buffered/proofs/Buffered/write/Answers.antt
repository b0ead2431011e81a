-- A write goes one of three ways: longer than the whole staging; filling what is free, so that the rest is staged after a flush; or staged whole.
use Rattle.std.proofs.Common.{arith, ◌∙◌}
use Rattle.buffered.specs.WrittenLaws.{written-long, written-split, written_keeps}
use Rattle.buffered.proofs.Buffered.write.Goals as goal

pub returns-then-staging-bytes-clause-written : goal.returns-then-staging-bytes-clause-written
returns-then-staging-bytes-clause-written c =
    rw (c.store_direct.ensures, c.flush.ensures.flushed) (written-long _ _ (omega arith))

pub returns-then-room-bytes-clause-written : goal.returns-then-room-bytes-clause-written
returns-then-room-bytes-clause-written c =
    rw (c.keep-then-room-bytes.ensures, c.flush-then-room-bytes.ensures.flushed, c.keep.ensures, c.split_at.ensures.front, c.split_at.ensures.back)
    (written-split _ _ c.requires.staging (omega arith) (omega arith))

pub returns-else-room-bytes-clause-written : goal.returns-else-room-bytes-clause-written
returns-else-room-bytes-clause-written c = c.keep-else-room-bytes.ensures ∙ written_keeps _ _ (omega arith)
