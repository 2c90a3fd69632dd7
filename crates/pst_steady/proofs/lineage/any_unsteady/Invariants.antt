use Rattle.std.proofs.Common.{map}
use Rattle.pst_ast.specs.DeclarationView.{view_unit}
use Rattle.pst_steady.specs.Lined.{IsUnsteadyAmong}
use Rattle.pst_steady.proofs.lineage.any_unsteady.Given as goal

abbrev pub invariant-loop-at : goal.invariant-loop-at
invariant-loop-at l = IsUnsteadyAmong (map view_unit l.sites) l.marked l.at l.handle → ⊥
