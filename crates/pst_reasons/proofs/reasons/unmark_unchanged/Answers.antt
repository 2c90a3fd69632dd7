use Rattle.pst_reasons.proofs.MarkLemmas.{none_off, off_then}
use Rattle.pst_reasons.proofs.reasons.unmark_unchanged.Goals as goal

pub loop-change-init : goal.loop-change-init
loop-change-init c = none_off c.args.firsts.now c.args.mark c.args.marks.now

pub loop-change-preserved : goal.loop-change-preserved
loop-change-preserved c = off_then c.args.firsts.now c.args.mark c.args.marks.now c.loop-change.marks c.unmark_if_unchanged.new.marks c.loop-change.invariant c.unmark_if_unchanged.ensures
