use Rattle.std.proofs.Common.{◌≡◌, ◌++◌, drop, map}
use Rattle.pst_ast.specs.SharedView.{view_next_expr}
use Rattle.pst_model.specs.ConstraintTree.{view_constraint}
use Rattle.pst_path_readings.specs.Set.{view_setting}
use Rattle.pst_ast.specs.Uses.{next_expr}
use Rattle.pst_sources.specs.Shown.{sources_of}
use Rattle.pst_terms.specs.Readings.{expression_of}
use Rattle.pst_body_parts.proofs.calls.add_arguments.Given as goal

abbrev pub invariant-loop-next : goal.invariant-loop-next
invariant-loop-next l =
    map view_constraint l.found.items ++ map (expression_of (sources_of l.sources) (view_setting l.setting)) (map next_expr (map view_next_expr (drop l.next-index l.rest)))
    ≡ map view_constraint l.initial.found.items ++ map (expression_of (sources_of l.sources) (view_setting l.setting)) (map next_expr (map view_next_expr l.rest))
