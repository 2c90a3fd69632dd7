use Rattle.std.proofs.Common.{◌≡◌, ◌++◌, drop, map}
use Rattle.pst_ast.specs.ActivityView.{view_statement}
use Rattle.pst_step_parts.specs.Joined.{labels_of}
use Rattle.pst_step_parts.proofs.labels.branch_labels.Given as goal

abbrev pub invariant-loop-statement : goal.invariant-loop-statement
invariant-loop-statement l = l.labels.items ++ labels_of (map view_statement (drop l.statement-index l.statements)) ≡ labels_of (map view_statement l.statements)
