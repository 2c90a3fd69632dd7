use Rattle.std.proofs.Common.{map}
use Rattle.pst_expr.specs.Tree.{view}
use Rattle.pst_narrow.proofs.SettleLemmas.{IsSettling}
use Rattle.pst_reasons.specs.Settled.{KeepExplained, IsAppended}
use Rattle.pst_reasons.proofs.settling.settle.Given as goal

abbrev pub invariant-loop-at : goal.invariant-loop-at
invariant-loop-at l = record {
  settling : IsSettling (map view l.constraints) l.from l.at l.initial.bounds l.bounds l.initial.trail l.trail;
  appended : IsAppended l.initial.steps.items l.steps.items;
  explained : KeepExplained (map view l.constraints) l.initial.steps.items l.steps.items l.initial.trail l.trail l.initial.bounds l.bounds;
}
