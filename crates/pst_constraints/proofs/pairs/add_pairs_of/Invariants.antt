use Rattle.std.proofs.Common.{◌≡◌, ◌++◌, drop, map}
use Rattle.pst_ast.specs.ExpressionView.{view_expr}
use Rattle.pst_expr.specs.declared.tree.BinaryOp.TheVariants.{NotEqual}
use Rattle.pst_model.specs.ConstraintTree.{view_constraint}
use Rattle.pst_path_readings.specs.Set.{view_setting}
use Rattle.pst_terms.specs.Terms.{Infix}
use Rattle.pst_terms.specs.Readings.{expr_term}
use Rattle.pst_sources.specs.Shown.{sources_of}
use Rattle.pst_constraints.specs.Implied.{made, view_premises}
use Rattle.pst_constraints.specs.Paired.{next_terms}
use Rattle.pst_constraints.proofs.pairs.add_pairs_of.Given as goal

abbrev pub invariant-loop-next : goal.invariant-loop-next
invariant-loop-next l =
    map view_constraint l.found.items ++ map (made (view_premises l.premises)) (map (Infix NotEqual (expr_term (sources_of l.sources) (view_setting l.setting) (view_expr l.item))) (next_terms (sources_of l.sources) (view_setting l.setting) (drop l.next-index l.rest)))
    ≡ map view_constraint l.initial.found.items ++ map (made (view_premises l.premises)) (map (Infix NotEqual (expr_term (sources_of l.sources) (view_setting l.setting) (view_expr l.item))) (next_terms (sources_of l.sources) (view_setting l.setting) l.rest))
