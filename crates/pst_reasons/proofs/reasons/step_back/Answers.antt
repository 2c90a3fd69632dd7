use Rattle.std.proofs.Common.{length, subst}
use Rattle.pst_reasons.specs.Reasons.{IsKnownCause}
use Rattle.pst_reasons.proofs.MarkLemmas.{has_of_row, back_taken}
use Rattle.pst_reasons.proofs.reasons.step_back.Goals as goal

pub mark_changed-requires : goal.mark_changed-requires
mark_changed-requires c v there =
    let known = subst (λ z. IsKnownCause c.args.watch.now z (length c.args.marks.now)) c.in-Constraint.is c.requires in
    known.1 v (has_of_row c.args.watch.now c.in-Constraint.number v c.variables_of.result.now c.variables_of.ensures there)

pub returns-in-Constraint : goal.returns-in-Constraint
returns-in-Constraint c =
    back_taken c.args.watch.now c.args.step.cause c.in-Constraint.number c.args.firsts.now c.args.step.mark c.args.changes.now c.variables_of.result.now c.args.marks.now c.mark_changed.new.marks c.unmark_unchanged.new.marks c.args.places.now.items c.in-Constraint.is c.variables_of.ensures c.mark_changed.ensures c.unmark_unchanged.ensures
