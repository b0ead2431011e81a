-- The reading under way, by `Going`.
use Rattle.std.proofs.Common.{refl, arith}
use Rattle.segment_reader.proofs.Entered.{are-bytes}
use Rattle.segment_reader.proofs.Going.{going-begins, going-refused, going-ends}
use Rattle.segment_reader.proofs.survey.read_segment.Goals as goal

pub returns-in_err-open-clause-allows : goal.returns-in_err-open-clause-allows
returns-in_err-open-clause-allows c =
    let h = going-refused c.args.file_id c.args.image.now c.args.list.now c.in_err-open.field-0.0 c.open.new.self c.in_err-open.ensures.allows in
    grind arith

pub loop-entry-init : goal.loop-entry-init
loop-entry-init c = rw c.new.ensures (refl, going-begins _ _ _ _ c.in_ok-open.ensures.allows)

pub returns-clause-allows : goal.returns-clause-allows
returns-clause-allows c =
    going-ends _ _ _ _ _ _ _ _ (are-bytes _ c.type_inv.image) c.loop-entry.invariant c.in_default.ensures.steps
