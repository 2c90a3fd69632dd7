use Rattle.std.proofs.Common.{◌≡◌, ◌++◌, ◌∷◌, length, map}
use Rattle.pst_ast.specs.ExpressionView.{view_expr}
use Rattle.pst_elab_rules.specs.Constraints.{pairs}
use Rattle.pst_model.specs.ConstraintTree.{view_constraint}
use Rattle.pst_path_readings.specs.Set.{view_setting}
use Rattle.pst_terms.specs.Readings.{expr_term}
use Rattle.pst_sources.specs.Shown.{sources_of}
use Rattle.pst_constraints.specs.Implied.{made, view_premises}
use Rattle.pst_constraints.specs.Paired.{next_terms}
use Rattle.pst_constraints.proofs.pairs.add_pairs.Given as goal

abbrev pub invariant-loop-next : goal.invariant-loop-next
invariant-loop-next l =
    map view_constraint l.found.items ++ map (made (view_premises l.premises)) (pairs (next_terms (sources_of l.sources) (view_setting l.setting) l.left))
    ≡ map view_constraint l.fn.found.items ++ map (made (view_premises l.premises)) (pairs (expr_term (sources_of l.sources) (view_setting l.setting) (view_expr l.first) ∷ next_terms (sources_of l.sources) (view_setting l.setting) l.rest))

abbrev pub decreases-loop-next : goal.decreases-loop-next
decreases-loop-next l = length l.left
