use Rattle.std.proofs.Common.{◌≡◌, ◌+◌, ◌-◌, ◌*◌}
use Rattle.pst_expr.specs.Spans.{size_of}
use Rattle.pst_values.proofs.SearchLemmas.{IsSearching}
use Rattle.pst_values.proofs.solver.Solver.first_admitted.Given as goal

abbrev pub invariant-loop-place : goal.invariant-loop-place
invariant-loop-place l = record {
  same : l.self.constraints ≡ l.initial.self.constraints;
  watch : l.self.watch ≡ l.initial.self.watch;
  searching : IsSearching l.initial.self.constraints.items l.mark l.variable l.domain l.start l.from l.place l.width l.initial.self.trail l.self.trail l.initial.self.bounds l.self.bounds;
}

abbrev pub decreases-loop-place : goal.decreases-loop-place
decreases-loop-place l = 3 * (size_of l.domain - l.place) + l.width
