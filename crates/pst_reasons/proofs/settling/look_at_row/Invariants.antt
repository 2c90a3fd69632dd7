use Rattle.std.proofs.Common.{map}
use Rattle.pst_expr.specs.Tree.{view}
use Rattle.pst_narrow.proofs.SettleLemmas.{IsRowLooked}
use Rattle.pst_reasons.specs.Settled.{KeepExplained, IsAppended}
use Rattle.pst_reasons.proofs.settling.look_at_row.Given as goal

abbrev pub invariant-loop-number : goal.invariant-loop-number
invariant-loop-number l = record {
  looked : IsRowLooked l.constraints l.row l.number-index l.initial.bounds l.bounds l.initial.trail l.trail;
  appended : IsAppended l.initial.steps.items l.steps.items;
  explained : KeepExplained (map view l.constraints) l.initial.steps.items l.steps.items l.initial.trail l.trail l.initial.bounds l.bounds;
}
