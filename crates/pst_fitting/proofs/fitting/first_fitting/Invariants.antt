use Rattle.std.proofs.Common.{◌+◌, ◌-◌, ◌*◌, cond}
use Rattle.pst_expr.specs.Spans.{size_of}
use Rattle.pst_fitting.proofs.FittingLemmas.{IsFitting}
use Rattle.pst_fitting.proofs.fitting.first_fitting.Given as goal

abbrev pub invariant-loop-place : goal.invariant-loop-place
invariant-loop-place l = IsFitting l.initial.narrowed l.narrowed l.variable l.domain l.start l.from l.place l.width l.reasons.items

abbrev pub decreases-loop-place : goal.decreases-loop-place
decreases-loop-place l = 3 * (size_of l.domain - l.place) + l.width + cond l.bounded 1 0
